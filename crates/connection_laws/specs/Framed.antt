-- The bytes of what an end writes, as frames.
use Rattle.std.specs.Prelude.{◌≡◌, List}
use Rattle.std.specs.List.{AllByRecursion}
use Rattle.sofh_frame.specs.Framing.{Frame, IsFrame}
use Rattle.sofh_frame.specs.Splits.{spelled_all}
use Rattle.fixp_msgs.specs.Canonical.{IsLegal}
use Rattle.fixp_msgs.specs.Numbering.{events_of}
use Rattle.fixp_msgs.specs.Payload.{IsApplication}
use Rattle.connection_laws.specs.Writing.{Piece, said, entry, bytes_written, events_written}

-- a message whose numbers fit their fields, or the payload of an application message
abbrev pub IsLegalPiece : Piece → Type 0
IsLegalPiece (said m) = IsLegal m
IsLegalPiece (entry payload) = IsApplication payload

-- admissible frames that have the bytes of some pieces, and say to the numbering what the pieces carry
pub record AreFrames (pieces : List Piece) (frames : List Frame) : Type 0 where
  pub each : AllByRecursion IsFrame frames
  pub bytes : spelled_all frames ≡ bytes_written pieces
  pub events : events_of frames ≡ events_written pieces

-- what an end writes are frames, whose events are those that it is said to write
abbrev pub PiecesAreFrames : Type 0
PiecesAreFrames = (pieces : List Piece) → AllByRecursion IsLegalPiece pieces → (frames : List Frame) × AreFrames pieces frames
