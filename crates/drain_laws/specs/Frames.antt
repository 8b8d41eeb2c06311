-- That each frame which an end reads lowers the measure: what it writes in reply weighs less than what was lifted.
use Rattle.std.specs.Prelude.{◌≡◌, ⊤, ℕ, ◌+◌, ◌*◌, ◌≤◌, ◌&&◌, true, if◌then◌else◌, length, Some, None}
use Rattle.fixp_msgs.specs.Message.{establishment_reject, sequence, unsequenced_heartbeat}
use Rattle.flow_retrans.specs.declared.request.Request.{Request}
use Rattle.flow_retrans.specs.declared.request.Request.TheVariants as requests
use Rattle.flow_retrans.specs.Requests.{is_coming}
use Rattle.fixp_shake.specs.declared.config.EndConfig.{EndConfig}
use Rattle.fixp_shake.specs.Flows.{is_recoverable}
use Rattle.fixp_shake.specs.Phases.{is_established}
use Rattle.fixp_replies.specs.declared.facts.Facts.{Facts}
use Rattle.fixp_replies.specs.Incoming.{Incoming, session}
use Rattle.fixp_replies.specs.Facts.{Around}
use Rattle.fixp_replies.specs.Announcing.{announced}
use Rattle.fixp_replies.specs.Outcomes.{Outcome}
use Rattle.fixp_replies.specs.Replies.{reply_of}
use Rattle.fixp_machine.specs.Machine.{to_tell}
use Rattle.drain_laws.specs.Weights.{weights, weight_in}
use Rattle.drain_laws.specs.Loads.{asked, load}

-- A range is asked for from the number on that the inbox awaits. Of one that comes in, the messages that are still to come end where it
-- does, and none that came is past that number
abbrev pub Fills : (next : ℕ) → Request → Type 0
Fills next requests.Nothing = ⊤
Fills next (requests.Asked range) = (range.from ≡ next) × (1 ≤ range.count)
Fills next (requests.Coming range number left) = (number + left ≡ range.from + range.count) × (number ≤ next)

-- a Sequence comes behind all messages of a retransmission
abbrev pub IsWhole : Request → Type 0
IsWhole requests.Nothing = ⊤
IsWhole (requests.Asked range) = ⊤
IsWhole (requests.Coming range number left) = left ≡ 0

-- What an end is not sent by one that keeps to the rules in the same session: an EstablishmentReject, and a Sequence in the midst of a
-- retransmission or one that jumps over numbers
abbrev pub IsHonest : Around → Facts → Incoming → Type 0
IsHonest x f (session (establishment_reject id timestamp code reason)) = ⊥
IsHonest x f (session (sequence next)) = IsWhole f.connection.requester × ((announced x f (Some next)).skipped ≡ None)
IsHonest x f i = ⊤

-- each lowers it by 4, but for what keeps a connection alive, which lowers it by 1; a Sequence that ends a retransmission is none of that
abbrev pub falls : Facts → Incoming → ℕ
falls f (session (sequence next)) = if is_established f.connection.phase && is_coming f.connection.requester then 4 else 1
falls f (session unsequenced_heartbeat) = 1
falls f i = 4

-- An outcome at a message of weight w lowers the measure by k, with what is written, what is left to be told, and what is left to be done,
-- where a connection that goes on asks for no number past the last one of the peer's outbox
abbrev pub Lowers : EndConfig → (m n : ℕ) → Facts → (w k : ℕ) → Outcome → Type 0
Lowers c m n f w k o = (o.ending ≡ None → is_recoverable c.peer_flow ≡ true → asked o.next ≤ n + 1)
    → weights o.written + 4 * length (to_tell c o.act) + load c m n o.next o.ending + k ≤ w + load c m n f None

-- in any phase, also where the reply ends the connection
abbrev pub FramesFall : Type 0
FramesFall = (x : Around) (m n : ℕ) (f : Facts) (i : Incoming) → Fills f.connection.receiver.next f.connection.requester → IsHonest x f i
    → Lowers x.config m n f (weight_in x.config i) (falls f i) (reply_of x f i)
