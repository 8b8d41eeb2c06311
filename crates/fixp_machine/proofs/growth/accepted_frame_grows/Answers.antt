use Rattle.fixp_machine.proofs.Accepted.{accepted_frame_grows}
use Rattle.fixp_machine.proofs.growth.accepted_frame_grows.Goals as goal

pub returns : goal.returns
returns c = record { law = accepted_frame_grows }
