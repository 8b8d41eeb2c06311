-- A reply of the code as an outcome of the reply table.
use Rattle.std.specs.Prelude.{ℕ, Bool, true, false, ◌+◌, length, if◌then◌else◌, List, [], ◌∷◌, Option, Some, None}
use Rattle.fixp_msgs.specs.Flow.{flow_code}
use Rattle.fixp_msgs.specs.Message.{Message, negotiate, negotiation_response, negotiation_reject, establish, establishment_ack, establishment_reject, sequence, unsequenced_heartbeat, retransmit_request, retransmission, retransmit_reject, applied, not_applied, finished_sending, finished_receiving, terminate}
use Rattle.fixp_shake.specs.declared.config.EndConfig.{EndConfig}
use Rattle.fixp_replies.specs.declared.reply.Outgoing.{Outgoing}
use Rattle.fixp_replies.specs.declared.reply.Outgoing.TheVariants as outgoing
use Rattle.fixp_replies.specs.declared.reply.Reply.{Reply}
use Rattle.fixp_replies.specs.declared.facts.Facts.{Facts}
use Rattle.fixp_replies.specs.Outcomes.{Outcome}

-- an outgoing message: of the configured session, but a reject, which names that of the request that it rejects
abbrev pub outgoing_message : EndConfig → Outgoing → Message
outgoing_message cfg (outgoing.Negotiate timestamp) = negotiate cfg.session timestamp (flow_code cfg.own_flow) cfg.credentials
outgoing_message cfg (outgoing.NegotiationResponse timestamp) = negotiation_response cfg.session timestamp (flow_code cfg.own_flow) []
outgoing_message cfg (outgoing.NegotiationReject session timestamp code) = negotiation_reject session timestamp code []
outgoing_message cfg (outgoing.Establish timestamp next expected) = establish cfg.session timestamp cfg.keepalive next expected cfg.credentials
outgoing_message cfg (outgoing.EstablishmentAck timestamp next expected) = establishment_ack cfg.session timestamp cfg.keepalive next expected
outgoing_message cfg (outgoing.EstablishmentReject session timestamp code) = establishment_reject session timestamp code []
outgoing_message cfg (outgoing.Sequence next) = sequence next
outgoing_message cfg outgoing.UnsequencedHeartbeat = unsequenced_heartbeat
outgoing_message cfg (outgoing.RetransmitRequest timestamp from count) = retransmit_request cfg.session timestamp from count
outgoing_message cfg (outgoing.Retransmission timestamp from count) = retransmission cfg.session from timestamp count
outgoing_message cfg (outgoing.RetransmitReject session timestamp code) = retransmit_reject session timestamp code []
outgoing_message cfg (outgoing.Applied from count) = applied from count
outgoing_message cfg (outgoing.NotApplied from count) = not_applied from count
outgoing_message cfg (outgoing.FinishedSending last) = finished_sending cfg.session last
outgoing_message cfg outgoing.FinishedReceiving = finished_receiving cfg.session
outgoing_message cfg (outgoing.Terminate code) = terminate cfg.session code []

-- the messages of a reply, which has places for some
abbrev pub messages_of : EndConfig → List (Option Outgoing) → List Message
messages_of cfg [] = []
messages_of cfg (None ∷ later) = messages_of cfg later
messages_of cfg (Some message ∷ later) = outgoing_message cfg message ∷ messages_of cfg later

-- a reply with the facts that it leaves
abbrev pub outcome_of : EndConfig → Reply → Facts → Outcome
outcome_of cfg reply next = record {
  act = reply.act;
  written = messages_of cfg reply.written;
  next = next;
  ending = reply.ending;
  accepted = reply.accepted;
  holds = reply.holds;
}

-- the messages that carry the credentials
abbrev pub carries_credentials : Outgoing → Bool
carries_credentials (outgoing.Negotiate timestamp) = true
carries_credentials (outgoing.Establish timestamp next expected) = true
carries_credentials _ = false

-- how many bytes the frame of a message has at most
abbrev pub frame_limit : EndConfig → Outgoing → ℕ
frame_limit cfg message = 64 + (if carries_credentials message then length cfg.credentials else 0)

-- and what stands in one place of a reply, and in all of them
abbrev pub place_limit : EndConfig → Option Outgoing → ℕ
place_limit cfg None = 0
place_limit cfg (Some message) = frame_limit cfg message

abbrev pub written_limit : EndConfig → List (Option Outgoing) → ℕ
written_limit cfg [] = 0
written_limit cfg (place ∷ later) = place_limit cfg place + written_limit cfg later

-- how many bytes the messages of one reply have at most: the credentials are written once
abbrev pub reply_limit : EndConfig → ℕ
reply_limit cfg = 256 + length cfg.credentials
