use Rattle.connection_laws.proofs.Framing.{pieces_are_frames}
use Rattle.connection_laws.proofs.replying.pieces_are_frames.Goals as goal

pub returns : goal.returns
returns c = record { law = pieces_are_frames }
