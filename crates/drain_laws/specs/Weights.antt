-- What a message under way weighs in the measure of what two ends still have to do: more than all that comes of its being read (the
-- messages are those of FIXP 1.1; the weights are this project's profile).
use Rattle.std.specs.Prelude.{ℕ, ◌+◌, ◌*◌, Bool, if◌then◌else◌, List, [], ◌∷◌}
use Rattle.fixp_msgs.specs.Message.{Message, negotiate, negotiation_response, negotiation_reject, establish, establishment_ack, establishment_reject, sequence, unsequenced_heartbeat, retransmit_request, retransmission, retransmit_reject, applied, not_applied, finished_sending, finished_receiving, terminate}
use Rattle.fixp_shake.specs.declared.config.EndConfig.{EndConfig}
use Rattle.fixp_shake.specs.Flows.{is_idempotent}
use Rattle.fixp_replies.specs.Incoming.{Incoming, application, session}

-- A session message: 4 where nothing comes of it, and of what is answered 4 more than its answer, so that the handshake comes down from 25.
-- Behind an acknowledgement a NotApplied and a Sequence may be written; a request pays for each message that is sent again, and for the
-- Retransmission before them; a finish may wait for a gap before it is answered; and what keeps a connection alive weighs 1
abbrev pub weight_of : Message → ℕ
weight_of (negotiate id timestamp flow credentials) = 25
weight_of (negotiation_response id timestamp flow credentials) = 21
weight_of (negotiation_reject id timestamp code reason) = 21
weight_of (establish id timestamp keepalive next expected credentials) = 17
weight_of (establishment_ack id timestamp keepalive next expected) = 9
weight_of (establishment_reject id timestamp code reason) = 13
weight_of (sequence next) = 1
weight_of unsequenced_heartbeat = 1
weight_of (retransmit_request id timestamp first count) = 8 + 9 * count
weight_of (retransmission id next timestamp count) = 4
weight_of (retransmit_reject id timestamp code reason) = 4
weight_of (applied first count) = 4
weight_of (not_applied first count) = 4
weight_of (finished_sending id last) = 12
weight_of (finished_receiving id) = 4
weight_of (terminate id code reason) = 4

abbrev pub weights : List Message → ℕ
weights [] = 0
weights (m ∷ later) = weight_of m + weights later

-- an application message: one of an idempotent flow pays for the Applied that tells of it too
abbrev pub entry_weight : (idempotent : Bool) → ℕ
entry_weight idempotent = if idempotent then 8 else 4

-- a frame that an end reads: application messages are of the peer's flow
abbrev pub weight_in : EndConfig → Incoming → ℕ
weight_in c (application payload) = entry_weight (is_idempotent c.peer_flow)
weight_in c (session m) = weight_of m
weight_in c _ = 4
