-- What is done with a connection by the first frame that came on it, before it is the session's (FIXP 1.1, Negotiate, Establish and their rejects; who
-- is looked at, and for how many bytes, is this project's profile).
use Rattle.std.specs.Prelude.{ℕ, ◌&&◌, Bool, true, nat_le, nat_lt, if◌then◌else◌, List, [], ◌∷◌, length, Option, Some, None}
use Rattle.std.specs.Str.{bytes_eq}
use Rattle.sofh_frame.specs.Framing.{First, frame, rest, bad_length, bad_encoding, first_of, length_in}
use Rattle.fixp_msgs.specs.declared.flow.Flow.TheVariants as flows
use Rattle.fixp_msgs.specs.declared.frames.FrameKind.{FrameKind}
use Rattle.fixp_msgs.specs.declared.frames.FrameKind.TheVariants.{App, Session, Wrong}
use Rattle.fixp_msgs.specs.Header.{kind_of}
use Rattle.fixp_msgs.specs.Message.{Message, negotiate, negotiation_reject, establish, establishment_reject}
use Rattle.fixp_msgs.specs.Spelled.{message_in}
use Rattle.fixp_shake.specs.declared.config.EndConfig.{EndConfig}
use Rattle.fixp_shake.specs.declared.config.Role.TheVariants.{Acceptor}
use Rattle.fixp_shake.specs.declared.phase.Phase.TheVariants.{Idle}
use Rattle.fixp_shake.specs.Handshake.{negotiation_code, establishment_code}
use Rattle.fixp_replies.specs.declared.facts.Facts.{Facts}
use Rattle.fixp_replies.specs.Facts.{Around, connecting}
use Rattle.fixp_replies.specs.Incoming.{Incoming, application, session, wrong_order, too_short, unknown}
use Rattle.fixp_replies.specs.Replies.{answer_of}
use Rattle.conn_keys.specs.declared.keys.Keys.{Keys}
use Rattle.conn_keys.specs.declared.judging.Reject.{Reject}
use Rattle.conn_keys.specs.declared.judging.Reject.TheVariants as rejected
use Rattle.conn_keys.specs.declared.judging.Verdict as declared
use Rattle.conn_keys.specs.declared.judging.Verdict.TheVariants as verdicts

-- no whole frame came, and one still may; the connection is the session's, with all that came; these are written, and it is closed; or it is closed,
-- and nothing is written
pub data Verdict : Type 0 where
  waits : Verdict
  serves : Verdict
  rejects : List Message → Verdict
  closes : Verdict

-- of a connection at most so many bytes are looked at
abbrev pub looked_at : ℕ
looked_at = 4096

-- these are the session's identifier and its credentials
abbrev pub are_given : Keys → (id credentials : List ℕ) → Bool
are_given k id credentials = bytes_eq id k.session && bytes_eq credentials k.credentials

-- An acceptor with these keys, which waits for its client, and whose session was negotiated. What else its configuration says changes no reject
abbrev pub acceptor_of : Keys → Around
acceptor_of k = record {
  config = record {
    role = Acceptor;
    session = k.session;
    own_flow = flows.Recoverable;
    peer_flow = flows.Recoverable;
    keepalive = 1000;
    credentials = k.credentials;
    version = 0;
  };
  most = 0;
  at = 0;
  moment = 0;
  held = None;
}

abbrev pub awaiting_client : Facts
awaiting_client = connecting (record { negotiated = true; inbox_next = 1; peer_last = None; sent = 0; finish = None }) Idle

-- what the reply table has it write to this message
abbrev pub table_writes : Keys → Message → List Message
table_writes k m = (answer_of (acceptor_of k) awaiting_client (session m)).written

-- A Negotiate or an Establish that gives the keys is the session's to answer, whatever else it says; one that does not is rejected as the table has it
abbrev pub verdict_on : Keys → Message → Verdict
verdict_on k (negotiate id timestamp flow credentials) =
    if are_given k id credentials then serves else rejects (table_writes k (negotiate id timestamp flow credentials))
verdict_on k (establish id timestamp keepalive next expected credentials) =
    if are_given k id credentials then serves else rejects (table_writes k (establish id timestamp keepalive next expected credentials))
verdict_on k _ = closes

-- the same by what came, once it is classified: whatever is no session message closes
abbrev pub verdict_in : Keys → Incoming → Verdict
verdict_in k (application payload) = closes
verdict_in k (session m) = verdict_on k m
verdict_in k wrong_order = closes
verdict_in k too_short = closes
verdict_in k (unknown template) = closes

abbrev pub verdict_if : Keys → Option Message → Verdict
verdict_if k None = closes
verdict_if k (Some m) = verdict_on k m

-- the session message of a frame, where it is one
abbrev pub message_of_kind : FrameKind → List ℕ → Option Message
message_of_kind Session message = message_in message
message_of_kind App message = None
message_of_kind Wrong message = None

abbrev pub verdict_at : Keys → First → Verdict
verdict_at k (frame order message size) = verdict_if k (message_of_kind (kind_of order message) message)
verdict_at k rest = waits
verdict_at k (bad_length n) = closes
verdict_at k (bad_encoding encoding) = closes

-- the frame at the front is to have more bytes than are looked at
abbrev pub is_too_long : List ℕ → Bool
is_too_long bytes = nat_le 4 (length bytes) && nat_lt looked_at (length_in bytes)

-- the verdict on a connection on which these bytes came
unfoldable pub verdict_of : Keys → List ℕ → Verdict
verdict_of k bytes = if is_too_long bytes then closes else verdict_at k (first_of bytes)

-- the reject of the code as a message
abbrev pub reject_message : Reject → Message
reject_message (rejected.Negotiation id timestamp code) = negotiation_reject id timestamp (negotiation_code code) []
reject_message (rejected.Establishment id timestamp code) = establishment_reject id timestamp (establishment_code code) []

-- the verdict of the code
abbrev pub seen : declared.Verdict → Verdict
seen verdicts.Wait = waits
seen verdicts.Serve = serves
seen (verdicts.Reject reject) = rejects (reject_message reject ∷ [])
seen verdicts.Close = closes
