-- The session messages as values (FIXP 1.1; the fields in the order of this project's profile).
use Rattle.std.specs.Prelude.{ℕ, List, Option}
use Rattle.fixp_msgs.specs.declared.messages.Expected.{Expected}
use Rattle.fixp_msgs.specs.declared.messages.SessionMsg.{SessionMsg}
use Rattle.fixp_msgs.specs.declared.messages.SessionMsg.TheVariants as variants

pub data Message : Type 0 where
  negotiate : (session : List ℕ) → (timestamp client_flow : ℕ) → (credentials : List ℕ) → Message
  negotiation_response : (session : List ℕ) → (request_timestamp server_flow : ℕ) → (credentials : List ℕ) → Message
  negotiation_reject : (session : List ℕ) → (request_timestamp code : ℕ) → (reason : List ℕ) → Message
  establish : (session : List ℕ) → (timestamp keepalive : ℕ) → (next : Option ℕ) → (expected : Expected) → (credentials : List ℕ) → Message
  establishment_ack : (session : List ℕ) → (request_timestamp keepalive : ℕ) → (next : Option ℕ) → (expected : Expected) → Message
  establishment_reject : (session : List ℕ) → (request_timestamp code : ℕ) → (reason : List ℕ) → Message
  sequence : (next : ℕ) → Message
  unsequenced_heartbeat : Message
  retransmit_request : (session : List ℕ) → (timestamp first count : ℕ) → Message
  retransmission : (session : List ℕ) → (next request_timestamp count : ℕ) → Message
  retransmit_reject : (session : List ℕ) → (request_timestamp code : ℕ) → (reason : List ℕ) → Message
  applied : (first count : ℕ) → Message
  not_applied : (first count : ℕ) → Message
  finished_sending : (session : List ℕ) → (last : Option ℕ) → Message
  finished_receiving : (session : List ℕ) → Message
  terminate : (session : List ℕ) → (code : ℕ) → (reason : List ℕ) → Message

-- the value of a message of the code, whose data lie in memory
abbrev pub message_of : SessionMsg → Message
message_of (variants.Negotiate m) = negotiate m.session_id m.timestamp m.client_flow m.credentials.now
message_of (variants.NegotiationResponse m) = negotiation_response m.session_id m.request_timestamp m.server_flow m.credentials.now
message_of (variants.NegotiationReject m) = negotiation_reject m.session_id m.request_timestamp m.code m.reason.now
message_of (variants.Establish m) = establish m.session_id m.timestamp m.keepalive m.next_seq m.expected_next m.credentials.now
message_of (variants.EstablishmentAck m) = establishment_ack m.session_id m.request_timestamp m.keepalive m.next_seq m.expected_next
message_of (variants.EstablishmentReject m) = establishment_reject m.session_id m.request_timestamp m.code m.reason.now
message_of (variants.Sequence m) = sequence m.next_seq
message_of (variants.UnsequencedHeartbeat _) = unsequenced_heartbeat
message_of (variants.RetransmitRequest m) = retransmit_request m.session_id m.timestamp m.from_seq m.count
message_of (variants.Retransmission m) = retransmission m.session_id m.next_seq m.request_timestamp m.count
message_of (variants.RetransmitReject m) = retransmit_reject m.session_id m.request_timestamp m.code m.reason.now
message_of (variants.Applied m) = applied m.from_seq m.count
message_of (variants.NotApplied m) = not_applied m.from_seq m.count
message_of (variants.FinishedSending m) = finished_sending m.session_id m.last_seq
message_of (variants.FinishedReceiving m) = finished_receiving m.session_id
message_of (variants.Terminate m) = terminate m.session_id m.code m.reason.now
