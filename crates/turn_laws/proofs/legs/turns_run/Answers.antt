use Rattle.turn_laws.proofs.Running.{turns_run}
use Rattle.turn_laws.proofs.legs.turns_run.Goals as goal

pub returns : goal.returns
returns c = record { law = turns_run }
