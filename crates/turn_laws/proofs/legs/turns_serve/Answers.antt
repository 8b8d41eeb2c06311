use Rattle.turn_laws.proofs.Running.{turns_serve}
use Rattle.turn_laws.proofs.legs.turns_serve.Goals as goal

pub returns : goal.returns
returns c = record { law = turns_serve }
