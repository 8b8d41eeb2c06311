use Rattle.turn_laws.proofs.Running.{turns_refused_tail}
use Rattle.turn_laws.proofs.legs.turns_refused_tail.Goals as goal

pub returns : goal.returns
returns c = record { law = turns_refused_tail }
