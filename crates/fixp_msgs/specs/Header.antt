-- The header of a message (SBE 1.0, "Message header"): four numbers of two bytes each, the block's
-- length, the template id, the schema id and the version. And what a message is by its schema id.
-- `from_le_bytes w bytes` is the number that the first bytes spell, as many as the width w has.
use Rattle.std.specs.Prelude.{ℕ, List, drop, ◌==◌, if◌then◌else◌}
use Rattle.std.specs.Int.{w16, from_le_bytes, from_be_bytes}
use Rattle.sbe_prim.specs.declared.Order.{Order}
use Rattle.sbe_prim.specs.declared.Order.TheVariants.{Little, Big}
use Rattle.fixp_msgs.specs.declared.frames.FrameKind.{FrameKind}
use Rattle.fixp_msgs.specs.declared.frames.FrameKind.TheVariants.{App, Session, Wrong}

-- the numbers of the header of a little-endian message
abbrev pub block_length_in : List ℕ → ℕ
block_length_in message = from_le_bytes w16 message

abbrev pub template_in : List ℕ → ℕ
template_in message = from_le_bytes w16 (drop 2 message)

abbrev pub schema_in : List ℕ → ℕ
schema_in message = from_le_bytes w16 (drop 4 message)

abbrev pub version_in : List ℕ → ℕ
version_in message = from_le_bytes w16 (drop 6 message)

-- the schema id of session messages (this project's profile)
abbrev pub session_schema : ℕ
session_schema = 0xF011

-- a message with that schema id is a session message, and is little-endian; any other is an
-- application message (this project's profile)
abbrev pub kind_of : Order → List ℕ → FrameKind
kind_of Little message = if schema_in message == session_schema then Session else App
kind_of Big message = if from_be_bytes w16 (drop 4 message) == session_schema then Wrong else App
