-- What a frame is to an end: its message, classified (FIXP 1.1; the schema id of session messages is this project's profile).
use Rattle.std.specs.Prelude.{◌≡◌, ℕ, false, List, [], IsTrue}
use Rattle.sbe_prim.specs.declared.Order.{Order}
use Rattle.fixp_msgs.specs.declared.frames.FrameKind.TheVariants.{App, Session, Wrong}
use Rattle.fixp_msgs.specs.Header.{kind_of, template_in}
use Rattle.fixp_msgs.specs.Message.{Message, message_of}
use Rattle.fixp_msgs.specs.Numbering.{payload_of}
use Rattle.fixp_msgs.specs.Table.{is_template}
use Rattle.fixp_msgs.specs.Grammar.{Spells}
use Rattle.fixp_replies.specs.declared.incoming.Incoming as classified
use Rattle.fixp_replies.specs.declared.incoming.Incoming.TheVariants as variants

-- an application message with its payload; a session message; a session message that no grammar takes, where it is
-- big-endian or too short; or a session message with a template that none has
pub data Incoming : Type 0 where
  application : (payload : List ℕ) → Incoming
  session : Message → Incoming
  wrong_order : Incoming
  too_short : Incoming
  unknown : (template : ℕ) → Incoming

-- the payload of an application message
abbrev pub payload_in : Incoming → List ℕ
payload_in (application payload) = payload
payload_in (session m) = []
payload_in wrong_order = []
payload_in too_short = []
payload_in (unknown template) = []

-- the message of a frame is this
abbrev pub IsIncoming : Order → List ℕ → Incoming → Type 0
IsIncoming order message (application payload) = (kind_of order message ≡ App) × (payload ≡ payload_of (record { order = order; message = message }))
IsIncoming order message (session m) = (kind_of order message ≡ Session) × Spells message m
IsIncoming order message wrong_order = kind_of order message ≡ Wrong
IsIncoming order message too_short = (kind_of order message ≡ Session) × IsTrue (is_template (template_in message)) × ((m : Message) → Spells message m → ⊥)
IsIncoming order message (unknown id) = (kind_of order message ≡ Session) × (template_in message ≡ id) × (is_template id ≡ false)

-- the incoming message that the code classified
abbrev pub incoming_of : classified.Incoming → Incoming
incoming_of (variants.Application order message) = application (payload_of (record { order = order; message = message.now }))
incoming_of (variants.Session m) = session (message_of m)
incoming_of variants.WrongOrder = wrong_order
incoming_of variants.TooShort = too_short
incoming_of (variants.Unknown id) = unknown id
