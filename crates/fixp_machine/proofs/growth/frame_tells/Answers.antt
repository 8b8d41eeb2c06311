use Rattle.fixp_machine.proofs.Accepted.{frame_tells}
use Rattle.fixp_machine.proofs.growth.frame_tells.Goals as goal

pub returns : goal.returns
returns c = record { law = frame_tells }
