use Rattle.turn_laws.proofs.Running.{turns_refused}
use Rattle.turn_laws.proofs.legs.turns_refused.Goals as goal

pub returns : goal.returns
returns c = record { law = turns_refused }
