use Rattle.fixp_end.proofs.Frames.{frames_fit}
use Rattle.fixp_end.proofs.sending.frames_fit.Goals as goal

pub returns : goal.returns
returns c = record { law = frames_fit }
