-- The other definitions, tried on the connections of `Samples` and on one that begins.
use Rattle.std.specs.Prelude.{◌≡◌, ℕ, true, false, [], Some, None}
use Rattle.std.specs.List.{AllByRecursion}
use Rattle.fixp_msgs.specs.declared.flow.Flow.TheVariants as flows
use Rattle.fixp_msgs.specs.declared.messages.Expected.TheVariants as expects
use Rattle.fixp_msgs.specs.Message.{sequence, unsequenced_heartbeat, retransmit_request, establish}
use Rattle.fixp_shake.specs.declared.config.Role.TheVariants as roles
use Rattle.fixp_shake.specs.declared.config.EndConfig.{EndConfig}
use Rattle.fixp_replies.specs.declared.facts.EndState.{EndState}
use Rattle.fixp_replies.specs.Incoming.{Incoming, application, session}
use Rattle.fixp_replies.specs.Replies.{reply_of}
use Rattle.fixp_machine.specs.Machine.{State, begin, frame, did, tick, closed, turn_done, fresh, around, step}
use Rattle.connection_laws.specs.Writing.{writes}
use Rattle.connection_laws.specs.Samples.{id, sample_config, recorded, one}
use Rattle.drain_laws.specs.Counts.{finish, answer, request, restart, opening, shutting, under_way}
use Rattle.drain_laws.specs.Counts as counts
use Rattle.drain_laws.specs.Frames.{Fills, IsHonest, falls}
use Rattle.drain_laws.specs.Calls.{weights_out}
use Rattle.drain_laws.specs.Beginning.{idle_measure}
use Rattle.drain_laws.specs.Negotiating.{IsGood, NoReject}
use Rattle.drain_laws.specs.Samples as samples

-- The initiator waits for the answer to its Establish. It answers a request, tells its finish, which is answered, and closes
abbrev pub InitiatorCounted : Type 0
InitiatorCounted =
    (under_way opening (writes (fresh sample_config recorded 100) (begin 0)) ≡ 1) × (counts.unshaken samples.opened.facts ≡ 1) × (counts.unshaken samples.acknowledged.facts ≡ 0)
    × (under_way restart (writes samples.heard (frame (session (retransmit_request id 0 2 1)) 0 2)) ≡ 1)
    × (under_way finish (writes samples.applied (closed 3 2)) ≡ 1) × (counts.told samples.finished.facts ≡ 1)
    × (counts.told samples.exchanged.facts ≡ 0) × (counts.exchanged samples.exchanged.facts ≡ 1) × (counts.answered samples.exchanged.facts ≡ 1)
    × (under_way shutting (writes samples.exchanged (turn_done 2)) ≡ 1)

-- The reader asks for the three numbers that are missing, from 1 on; they come; and its peer's finish, which waited for them, is answered
abbrev pub ReaderCounted : Type 0
ReaderCounted =
    (under_way request (writes samples.reader samples.gap) ≡ 1) × (counts.unanswered samples.asking.facts ≡ 1) × Fills 1 samples.asking.facts.connection.requester
    × (counts.read samples.waiting.facts ≡ 1) × (counts.unanswered samples.restarted.facts ≡ 0) × Fills 1 samples.restarted.facts.connection.requester
    × Fills 4 samples.filled.facts.connection.requester × (counts.read samples.filled.facts ≡ 1)
    × (under_way answer (writes samples.answers (did 2)) ≡ 1) × (counts.answered (step samples.answers (did 2)).facts ≡ 1)

-- all that the initiator wrote is taken
abbrev pub idle : State
idle = record samples.applied { unsent = [] }

-- A heartbeat lowers the measure by 1, and the Sequence that ends the retransmission by 4, which is not to come before the three messages.
-- A tick that writes a heartbeat raises it by 1
abbrev pub FallsCounted : Type 0
FallsCounted =
    (falls samples.reader.facts (session (sequence 1)) ≡ 1) × (falls samples.reader.facts (session unsequenced_heartbeat) ≡ 1)
    × (falls samples.restarted.facts (application one) ≡ 4) × (falls samples.filled.facts (session (sequence 4)) ≡ 4)
    × IsHonest (around samples.filled 0 2) samples.filled.facts (session (sequence 4))
    × (IsHonest (around samples.restarted 0 2) samples.restarted.facts (session (sequence 4)) → ⊥)
    × (weights_out sample_config (writes idle (tick 1001)) ≡ 0) × (weights_out sample_config (writes idle (tick 1002)) ≡ 1)

-- the acceptor of the initiator's session
abbrev pub acceptor_config : EndConfig
acceptor_config = record sample_config { role = roles.Acceptor; own_flow = flows.Idempotent; peer_flow = flows.Recoverable }

-- it has sent four entries, and awaits the initiator's number 3
abbrev pub told : EndState
told = record { negotiated = true; inbox_next = 3; peer_last = None; sent = 4; finish = None }

abbrev pub listening : State
listening = step (fresh acceptor_config told 100) (begin 0)

-- the same, where the session is not negotiated
abbrev pub unnegotiated : State
unnegotiated = step (fresh acceptor_config (record told { negotiated = false }) 100) (begin 0)

abbrev pub establishing : Incoming
establishing = session (establish id 0 1000 (Some 3) expects.Absent [])

-- where it knows that the session is negotiated it rejects no such Establish, and else it does
abbrev pub NegotiationCounted : Type 0
NegotiationCounted =
    IsGood (around listening 0 1) listening.facts establishing
    × AllByRecursion NoReject (reply_of (around listening 0 1) listening.facts establishing).written
    × (AllByRecursion NoReject (reply_of (around unnegotiated 0 1) unnegotiated.facts establishing).written → ⊥)

-- what both have to do before they begin, where their outboxes come to have three and four entries; of one entry more it would be
-- within the bound of seven too
abbrev pub before : ℕ
before = idle_measure sample_config acceptor_config 3 4 recorded told
