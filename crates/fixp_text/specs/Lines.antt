-- A session message as lines of text: its name and its header's version, its fields by the names that FIXP 1.1 has for them, and the line `end`
-- (the lines are this project's profile).
use Rattle.std.specs.Prelude.{ℕ, Option, Some, None, List, [], ◌∷◌, ◌++◌, slice_range, codes, decimal}
use Rattle.hex.specs.Hex.{encode_lower}
use Rattle.text_dates.specs.Dates.{moment_text}
use Rattle.fixp_msgs.specs.declared.messages.Expected.{Expected}
use Rattle.fixp_msgs.specs.declared.messages.Expected.TheVariants as expected
use Rattle.fixp_msgs.specs.Message.{Message}
use Rattle.fixp_text.specs.Words.{flow_name, negotiation_reject_name, establishment_reject_name, retransmit_reject_name, terminate_name}

-- ---- values

-- a session's identifier as UUIDs are written
unfoldable pub group_text : List ℕ → List ℕ
group_text bytes = encode_lower bytes ++ codes "-"

unfoldable pub identifier_text : List ℕ → List ℕ
identifier_text id =
    group_text (slice_range id 0 4) ++ group_text (slice_range id 4 6) ++ group_text (slice_range id 6 8) ++ group_text (slice_range id 8 10)
    ++ encode_lower (slice_range id 10 16)

-- nanoseconds since 1970, and the date and time of day in UTC that they are
unfoldable pub timestamp_text : ℕ → List ℕ
timestamp_text n = decimal n ++ codes " " ++ moment_text n

-- a number that may be missing
unfoldable pub optional_text : Option ℕ → List ℕ
optional_text None = codes "null"
optional_text (Some n) = decimal n

-- a number that is expected; a message of version 0 does not have it
unfoldable pub expected_text : Expected → List ℕ
expected_text expected.Absent = codes "absent"
expected_text expected.Null = codes "null"
expected_text (expected.Number n) = decimal n

-- what a number is called, if it has a name, behind a blank
abbrev pub word_text : List ℕ → List ℕ
word_text [] = []
word_text (letter ∷ letters) = codes " " ++ letter ∷ letters

-- a number and its name
unfoldable pub named_text : List ℕ → ℕ → List ℕ
named_text name n = decimal n ++ word_text name

-- free bytes: `x`, and each as two hexadecimal digits in lower case
unfoldable pub data_text : List ℕ → List ℕ
data_text bytes = codes "x" ++ encode_lower bytes

-- ---- lines

-- NAME = VALUE
unfoldable pub field_line : List ℕ → List ℕ → List ℕ
field_line name value = name ++ codes " = " ++ value ++ codes "\n"

-- session NAME version V
unfoldable pub session_line : ℕ → List ℕ → List ℕ
session_line version name = codes "session " ++ name ++ codes " version " ++ decimal version ++ codes "\n"

abbrev pub end_line : List ℕ
end_line = codes "end\n"

-- the session and the moment of a request, with which most messages begin
unfoldable pub request_lines : List ℕ → ℕ → List ℕ
request_lines session timestamp = field_line (codes "SessionId") (identifier_text session) ++ field_line (codes "Timestamp") (timestamp_text timestamp)

-- the session and the moment of the request that is answered
unfoldable pub answer_lines : List ℕ → ℕ → List ℕ
answer_lines session timestamp = field_line (codes "SessionId") (identifier_text session) ++ field_line (codes "RequestTimestamp") (timestamp_text timestamp)

-- why a request is refused
unfoldable pub reject_lines : List ℕ → ℕ → List ℕ → List ℕ
reject_lines name code reason = field_line (codes "Code") (named_text name code) ++ field_line (codes "Reason") (data_text reason)

-- the numbers that stand and are expected next
unfoldable pub next_lines : Option ℕ → Expected → List ℕ
next_lines next expected = field_line (codes "NextSeqNo") (optional_text next) ++ field_line (codes "ExpectedNextSeqNo") (expected_text expected)

-- the interval of heartbeats in milliseconds, and those numbers
unfoldable pub established_lines : ℕ → Option ℕ → Expected → List ℕ
established_lines keepalive next expected =
    field_line (codes "KeepaliveInterval") (decimal keepalive) ++ next_lines next expected

-- so many numbers of application messages, from this one on
unfoldable pub range_lines : ℕ → ℕ → List ℕ
range_lines first count = field_line (codes "FromSeqNo") (decimal first) ++ field_line (codes "Count") (decimal count)

-- a flow, and credentials
unfoldable pub flow_lines : List ℕ → ℕ → List ℕ → List ℕ
flow_lines name flow credentials = field_line name (named_text (flow_name flow) flow) ++ field_line (codes "Credentials") (data_text credentials)

-- ---- messages

-- the name of a message
unfoldable pub name_of : Message → List ℕ
name_of (Message.negotiate _ _ _ _) = codes "Negotiate"
name_of (Message.negotiation_response _ _ _ _) = codes "NegotiationResponse"
name_of (Message.negotiation_reject _ _ _ _) = codes "NegotiationReject"
name_of (Message.establish _ _ _ _ _ _) = codes "Establish"
name_of (Message.establishment_ack _ _ _ _ _) = codes "EstablishmentAck"
name_of (Message.establishment_reject _ _ _ _) = codes "EstablishmentReject"
name_of (Message.sequence _) = codes "Sequence"
name_of Message.unsequenced_heartbeat = codes "UnsequencedHeartbeat"
name_of (Message.retransmit_request _ _ _ _) = codes "RetransmitRequest"
name_of (Message.retransmission _ _ _ _) = codes "Retransmission"
name_of (Message.retransmit_reject _ _ _ _) = codes "RetransmitReject"
name_of (Message.applied _ _) = codes "Applied"
name_of (Message.not_applied _ _) = codes "NotApplied"
name_of (Message.finished_sending _ _) = codes "FinishedSending"
name_of (Message.finished_receiving _) = codes "FinishedReceiving"
name_of (Message.terminate _ _ _) = codes "Terminate"

-- its fields
abbrev pub fields_of : Message → List ℕ
fields_of (Message.negotiate session timestamp flow credentials) =
    request_lines session timestamp ++ flow_lines (codes "ClientFlow") flow credentials
fields_of (Message.negotiation_response session timestamp flow credentials) =
    answer_lines session timestamp ++ flow_lines (codes "ServerFlow") flow credentials
fields_of (Message.negotiation_reject session timestamp code reason) =
    answer_lines session timestamp ++ reject_lines (negotiation_reject_name code) code reason
fields_of (Message.establish session timestamp keepalive next expected credentials) =
    request_lines session timestamp ++ established_lines keepalive next expected ++ field_line (codes "Credentials") (data_text credentials)
fields_of (Message.establishment_ack session timestamp keepalive next expected) =
    answer_lines session timestamp ++ established_lines keepalive next expected
fields_of (Message.establishment_reject session timestamp code reason) =
    answer_lines session timestamp ++ reject_lines (establishment_reject_name code) code reason
fields_of (Message.sequence next) = field_line (codes "NextSeqNo") (decimal next)
fields_of Message.unsequenced_heartbeat = []
fields_of (Message.retransmit_request session timestamp first count) = request_lines session timestamp ++ range_lines first count
fields_of (Message.retransmission session next timestamp count) =
    field_line (codes "SessionId") (identifier_text session) ++ field_line (codes "NextSeqNo") (decimal next)
    ++ field_line (codes "RequestTimestamp") (timestamp_text timestamp) ++ field_line (codes "Count") (decimal count)
fields_of (Message.retransmit_reject session timestamp code reason) =
    answer_lines session timestamp ++ reject_lines (retransmit_reject_name code) code reason
fields_of (Message.applied first count) = range_lines first count
fields_of (Message.not_applied first count) = range_lines first count
fields_of (Message.finished_sending session last) =
    field_line (codes "SessionId") (identifier_text session) ++ field_line (codes "LastSeqNo") (optional_text last)
fields_of (Message.finished_receiving session) = field_line (codes "SessionId") (identifier_text session)
fields_of (Message.terminate session code reason) =
    field_line (codes "SessionId") (identifier_text session) ++ reject_lines (terminate_name code) code reason

-- the lines of a message whose header has this version
unfoldable pub lines_of_session : ℕ → Message → List ℕ
lines_of_session version m = session_line version (name_of m) ++ fields_of m ++ end_line
