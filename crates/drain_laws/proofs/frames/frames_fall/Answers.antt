use Rattle.drain_laws.proofs.Framed.{frames_fall}
use Rattle.drain_laws.proofs.frames.frames_fall.Goals as goal

pub returns : goal.returns
returns c = record { law = frames_fall }
