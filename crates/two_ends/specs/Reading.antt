-- What the bytes that one end wrote are to the end that reads them.
use Rattle.std.specs.Prelude.{◌≡◌, List, ℕ, option_to_list}
use Rattle.std.specs.List.{AllByRecursion, AllZip}
use mathlib.Core.List.{IsPrefix}
use Rattle.sofh_frame.specs.Framing.{Frame, IsBytes, spelled}
use Rattle.sofh_frame.specs.Splits.{frames_of}
use Rattle.fixp_replies.specs.Incoming.{Incoming, application, session, IsIncoming}
use Rattle.fixp_machine.specs.Accepting.{event_of}
use Rattle.connection_laws.specs.Writing.{Piece, said, entry, bytes_of_piece, bytes_written, events_of_piece}
use Rattle.connection_laws.specs.Framed.{IsLegalPiece}

-- what a frame that was written is to its reader: that session message, or an application message with that payload
abbrev pub incoming_of : Piece → Incoming
incoming_of (said m) = session m
incoming_of (entry payload) = application payload

-- a frame is one that was written: it has these bytes, and to its reader it is that message, and no other
pub record ReadsAs (p : Piece) (f : Frame) : Type 0 where
  pub bytes : spelled f ≡ bytes_of_piece p
  pub incoming : IsIncoming f.order f.message (incoming_of p)
  pub only : (i : Incoming) → IsIncoming f.order f.message i → i ≡ incoming_of p

-- the frames of some bytes are these, the first of those that were written
pub record AreRead (pieces : List Piece) (bytes : List ℕ) (read : List Piece) : Type 0 where
  pub first : IsPrefix read pieces
  pub whole : IsPrefix (bytes_written read) bytes
  pub frames : AllZip ReadsAs read (frames_of bytes)

-- bytes that begin what was written are the frames of the first of it, wherever they are cut
abbrev pub WrittenIsRead : Type 0
WrittenIsRead = (pieces : List Piece) (bytes : List ℕ) → AllByRecursion IsLegalPiece pieces → IsBytes bytes → IsPrefix bytes (bytes_written pieces)
    → (read : List Piece) × AreRead pieces bytes read

-- and all of what was written is read as all of its frames
abbrev pub AllIsRead : Type 0
AllIsRead = (pieces : List Piece) → AllByRecursion IsLegalPiece pieces → AllZip ReadsAs pieces (frames_of (bytes_written pieces))

-- what a frame is to its reader has the event that its writer gave it
abbrev pub EventIsCarried : Type 0
EventIsCarried = (p : Piece) → option_to_list (event_of (incoming_of p)) ≡ events_of_piece p
