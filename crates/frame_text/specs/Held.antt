-- What a frame holds, as lines of text (this project's profile; the frames are those of the Simple Open Framing Header).
use Rattle.std.specs.Prelude.{ℕ, if◌then◌else◌, Option, Some, None, Result, Ok, Err, List, ◌++◌, codes, decimal}
use Rattle.hex.specs.Hex.{encode_lower}
use denote.Enum.Bare.{sameb}
use Rattle.sbe_prim.specs.contracts.Order as order
use Rattle.sofh_frame.specs.Framing.{Frame}
use Rattle.fixp_msgs.specs.declared.frames.FrameKind.{FrameKind}
use Rattle.fixp_msgs.specs.declared.frames.FrameKind.TheVariants.{App, Session, Wrong}
use Rattle.fixp_msgs.specs.Header.{kind_of, template_in, version_in}
use Rattle.fixp_msgs.specs.Message as session
use Rattle.fixp_msgs.specs.Spelled as session_bytes
use Rattle.fixp_msgs.specs.Table.{is_template}
use Rattle.fixp_msgs.specs.Numbering.{payload_of}
use Rattle.fixp_text.specs.Lines.{lines_of_session}
use Rattle.sbe_value.specs.declared.message.Message.{Message}
use Rattle.sbe_layout.specs.declared.plan.Plan.{Plan}
use Rattle.sbe_grammar.specs.declared.fault.DecodeFault.{DecodeFault}
use Rattle.sbe_grammar.specs.declared.fault.DecodeFault.TheVariants.{Truncated, OtherSchema, UnknownTemplate, ShortBlock}
use Rattle.sbe_grammar.specs.Reading.{message_in}
use Rattle.sbe_text.specs.Written.{named_lines_of_message}

-- ---- a frame that is shown as its bytes

-- payload HEX, fault WORDS, end; the payload is the frame from its encoding type on
abbrev pub unread : Frame → List ℕ → List ℕ
unread f why = codes "payload " ++ encode_lower (payload_of f) ++ codes "\nfault " ++ why ++ codes "\nend\n"

-- why the bytes of an application message spell none
abbrev pub fault_words : DecodeFault → List ℕ
fault_words (Truncated at) = codes "what begins at byte " ++ decimal at ++ codes " of the message is not whole"
fault_words (OtherSchema id) = codes "the message is of schema " ++ decimal id
fault_words (UnknownTemplate id) = codes "the schema has no message of template " ++ decimal id
fault_words (ShortBlock at found needed) =
    codes "the block at byte " ++ decimal at ++ codes " of the message has " ++ decimal found ++ codes " bytes, and its fields take " ++ decimal needed

abbrev pub order_words : List ℕ
order_words = codes "it is in the other byte order than the schema"

-- why the bytes of a session message spell none
abbrev pub wrong_words : List ℕ
wrong_words = codes "it is a session message, which is little-endian"

abbrev pub short_words : List ℕ
short_words = codes "the block or the data of the session message are not whole"

abbrev pub template_words : ℕ → List ℕ
template_words template = codes "no session message has template " ++ decimal template

abbrev pub session_words : List ℕ → List ℕ
session_words message = if is_template (template_in message) then short_words else template_words (template_in message)

-- ---- what a frame holds

-- an application message by the schema, or why the schema has none there
abbrev pub application_told : Plan → Frame → Result Message DecodeFault → List ℕ
application_told plan f (Ok m) = named_lines_of_message plan m
application_told plan f (Err fault) = unread f (fault_words fault)

abbrev pub application_lines : Plan → Frame → List ℕ
application_lines plan f =
    if sameb order.the_type f.order plan.order then application_told plan f (message_in plan f.message) else unread f order_words

-- a session message, or why none is spelled
abbrev pub session_told : Frame → Option session.Message → List ℕ
session_told f (Some m) = lines_of_session (version_in f.message) m
session_told f None = unread f (session_words f.message)

abbrev pub session_lines : Frame → List ℕ
session_lines f = session_told f (session_bytes.message_in f.message)

abbrev pub lines_by_kind : Plan → Frame → FrameKind → List ℕ
lines_by_kind plan f App = application_lines plan f
lines_by_kind plan f Session = session_lines f
lines_by_kind plan f Wrong = unread f wrong_words

unfoldable pub held_lines : Plan → Frame → List ℕ
held_lines plan f = lines_by_kind plan f (kind_of f.order f.message)
