-- The laws of the session messages.
use Rattle.std.specs.Prelude.{◌≡◌, ◌↔◌, ℕ, ◌≤◌, List, ◌++◌, length, drop, Some}
use Rattle.std.specs.Int.{w16, w32, from_be_bytes}
use Rattle.sbe_prim.specs.declared.Order.TheVariants.{Little}
use Rattle.fixp_msgs.specs.declared.frames.FrameKind.TheVariants.{Session}
use Rattle.fixp_msgs.specs.Header.{kind_of}
use Rattle.fixp_msgs.specs.Message.{Message}
use Rattle.fixp_msgs.specs.Grammar.{Spells}
use Rattle.fixp_msgs.specs.Spelled.{message_in}
use Rattle.fixp_msgs.specs.Canonical.{message_bytes, frame_bytes, IsLegal}

-- at most one message is spelled by given bytes
abbrev pub AtMostOneMessage : Type 0
AtMostOneMessage = (bytes : List ℕ) (a b : Message) → Spells bytes a → Spells bytes b → a ≡ b

-- the message that is spelled is the one that is found, and none is found where none is spelled
abbrev pub SpelledIsFound : Type 0
SpelledIsFound = (bytes : List ℕ) (m : Message) → Spells bytes m ↔ (message_in bytes ≡ Some m)

-- what is written is spelled, whatever follows it
abbrev pub WrittenIsSpelled : Type 0
WrittenIsSpelled = (m : Message) (after : List ℕ) → IsLegal m → Spells (message_bytes m ++ after) m

-- The frame is whole and holds the message: its first four bytes are its length, which the framing
-- header of this project's profile admits, then comes the encoding type, and then the message, which is
-- a session message.
pub record IsWholeFrame (frame message : List ℕ) : Type 0 where
  pub size : from_be_bytes w32 frame ≡ length frame
  pub least : 14 ≤ length frame
  pub most : length frame ≤ 16390
  pub encoding : from_be_bytes w16 (drop 4 frame) ≡ 0xEB50
  pub held : drop 6 frame ≡ message
  pub session : kind_of Little message ≡ Session

abbrev pub WrittenIsWhole : Type 0
WrittenIsWhole = (m : Message) → IsLegal m → IsWholeFrame (frame_bytes m) (message_bytes m)
