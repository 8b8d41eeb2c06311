-- Context (FIXP 1.1, "Context"): a session message that names the session of the frames behind it. Its template id and its block are this
-- project's profile: the session identifier in 16 bytes, and an optional next sequence number in 8, which is ignored.
use Rattle.std.specs.Prelude.{◌≡◌, ◌↔◌, ℕ, ◌+◌, ◌==◌, nat_le, ◌&&◌, if◌then◌else◌, Bool, true, false, List, ◌++◌, length, take, drop}
use Rattle.std.specs.Int.{w16, w64, to_le_bytes}
use Rattle.sbe_prim.specs.declared.Order.{Order}
use Rattle.sbe_prim.specs.declared.Order.TheVariants.{Little, Big}
use Rattle.sofh_frame.specs.Framing.{Frame}
use Rattle.fixp_msgs.specs.Header.{block_length_in, template_in, schema_in, session_schema}
use Rattle.fixp_msgs.specs.Grammar.{IsBlock}
use Rattle.fixp_msgs.specs.Table.{null}

-- the template of Context, and the size of its block in bytes
abbrev pub context_template : ℕ
context_template = 17

abbrev pub context_block : ℕ
context_block = 24

-- A message spells a Context with this identifier: its block stands whole behind the header, and has at least the two fields (SBE 1.0,
-- "Message structure"). The block may be longer, bytes may follow it, and the version may be any.
pub record SpellsContext (message id : List ℕ) : Type 0 where
  pub template : template_in message ≡ context_template
  pub schema : schema_in message ≡ session_schema
  pub block : List ℕ
  pub behind : List ℕ
  pub stands : IsBlock message context_block block behind
  pub named : id ≡ take 16 block

-- What a frame says of the session of the frames behind it: it names one; it is a Context that is not spelled; or it is none, and is a frame
-- of the session that was named last.
pub data Says : Type 0 where
  names : List ℕ → Says
  malformed : Says
  carries : Says

-- a session message with that template. A big-endian frame is none (this project's profile)
abbrev pub has_template : List ℕ → Bool
has_template message = (schema_in message == session_schema) && (template_in message == context_template)

abbrev pub is_little : Order → Bool
is_little Little = true
is_little Big = false

abbrev pub is_context : Frame → Bool
is_context f = is_little f.order && has_template f.message

abbrev pub has_block : List ℕ → Bool
has_block message = nat_le context_block (block_length_in message) && nat_le (8 + block_length_in message) (length message)

unfoldable pub says : Frame → Says
says f = if is_context f then (if has_block f.message then names (take 16 (drop 8 f.message)) else malformed) else carries

-- a Context as it is written: version 0, and no number
abbrev pub context_message : List ℕ → List ℕ
context_message id = to_le_bytes w16 context_block ++ to_le_bytes w16 context_template ++ to_le_bytes w16 session_schema ++ to_le_bytes w16 0 ++ id ++ to_le_bytes w64 null

abbrev pub context_frame : List ℕ → Frame
context_frame id = record { order = Little; message = context_message id }

-- a frame names the session whose Context it spells, and no other frame names one
abbrev pub ContextIsSpelled : Type 0
ContextIsSpelled = (f : Frame) (id : List ℕ) → (says f ≡ names id) ↔ ((f.order ≡ Little) × SpellsContext f.message id)

-- a Context that is written names its session
abbrev pub ContextNames : Type 0
ContextNames = (id : List ℕ) → length id ≡ 16 → says (context_frame id) ≡ names id
