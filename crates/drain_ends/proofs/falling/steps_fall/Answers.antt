use Rattle.drain_ends.proofs.Fallen.{steps_fall}
use Rattle.drain_ends.proofs.falling.steps_fall.Goals as goal

pub returns : goal.returns
returns c = record { law = steps_fall }
