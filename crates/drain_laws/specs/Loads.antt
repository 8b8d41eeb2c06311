-- What an end still has to do on a connection, as a number: the load of its own flow, of the peer's, and of the connection's closing (this
-- project's profile). Each is said by the facts of this end alone.
use Rattle.std.specs.Prelude.{ℕ, ◌+◌, ◌-◌, ◌*◌, max, Bool, true, false, length, Option, Some, None}
use Rattle.fixp_msgs.specs.declared.numbering.Range.{Range}
use Rattle.flow_retrans.specs.declared.request.Request.{Request}
use Rattle.flow_retrans.specs.declared.request.Request.TheVariants as requests
use Rattle.fixp_shake.specs.declared.config.EndConfig.{EndConfig}
use Rattle.fixp_shake.specs.declared.phase.Phase.{Phase}
use Rattle.fixp_shake.specs.Flows.{is_recoverable, is_idempotent}
use Rattle.fixp_shake.specs.Phases.{is_closing, is_shaken}
use Rattle.fixp_replies.specs.declared.act.Ending.{Ending}
use Rattle.fixp_replies.specs.declared.facts.Facts.{Facts}
use Rattle.fixp_replies.specs.declared.facts.OwnFinish.{OwnFinish}
use Rattle.fixp_replies.specs.declared.facts.OwnFinish.TheVariants as own
use Rattle.fixp_replies.specs.declared.facts.PeerFinish.{PeerFinish}
use Rattle.fixp_replies.specs.declared.facts.PeerFinish.TheVariants as peer
use Rattle.fixp_replies.specs.Facts.{is_initiator}
use Rattle.fixp_machine.specs.Machine.{State}

-- How many entries are still to be sent, where the outbox comes to have m: before the handshake is done all of them, since by its number
-- the peer may have an end begin again with the first
abbrev pub unsent : (shaken : Bool) → (m sent : ℕ) → ℕ
unsent true m sent = m - sent
unsent false m sent = m

-- each pays for its message, and for 4 that sending it lowers
abbrev pub sent_load : (idempotent : Bool) → ℕ → ℕ
sent_load true k = 12 * k
sent_load false k = 8 * k

-- each message of the range that is sent again, and the Sequence behind the last one
abbrev pub served_load : Option Range → ℕ
served_load None = 0
served_load (Some range) = 9 * range.count

-- FinishedSending, as long as it is not written
abbrev pub told_load : OwnFinish → ℕ
told_load own.Open = 16
told_load own.Told = 0
told_load own.Exchanged = 0

abbrev pub own_load : EndConfig → (m : ℕ) → Facts → ℕ
own_load c m f =
    sent_load (is_idempotent c.own_flow) (unsent (is_shaken f.connection.phase) m f.recorded.sent)
    + (served_load f.connection.serving + told_load f.connection.own_finish)

-- the number behind the range that is asked for or comes in, and what is open where there is one
abbrev pub end_of : Request → ℕ
end_of requests.Nothing = 0
end_of (requests.Asked range) = range.from + range.count
end_of (requests.Coming range next left) = range.from + range.count

abbrev pub open_load : Request → ℕ
open_load requests.Nothing = 0
open_load (requests.Asked range) = 3
open_load (requests.Coming range next left) = 3

-- every number below this one is applied or asked for
abbrev pub asked : Facts → ℕ
asked f = max f.connection.receiver.next (end_of f.connection.requester)

-- each number of a recoverable flow of n that is neither pays for a request and for being sent again
abbrev pub lost_load : (recoverable : Bool) → (n asked : ℕ) → ℕ
lost_load true n k = 21 * ((n + 1) - k)
lost_load false n k = 0

-- the answer to a finish that waits for a gap
abbrev pub read_load : PeerFinish → ℕ
read_load peer.Open = 0
read_load (peer.Read last) = 8
read_load (peer.Exchanged last) = 0

-- the peer's flow, where its outbox comes to have n entries
abbrev pub peer_load : EndConfig → (n : ℕ) → Facts → ℕ
peer_load c n f =
    lost_load (is_recoverable c.peer_flow) n (asked f) + (open_load f.connection.requester + read_load f.connection.peer_finish)

-- each end writes one Terminate, and an initiator closes the connection with it first
abbrev pub closing_load : (initiates closing : Bool) → ℕ
closing_load true true = 4
closing_load true false = 12
closing_load false closing = 4

abbrev pub close_load : EndConfig → Phase → Option Ending → ℕ
close_load c phase None = closing_load (is_initiator c.role) (is_closing phase)
close_load c phase (Some ending) = 0

-- an end with these facts, whose connection ended so, if it has
abbrev pub load : EndConfig → (m n : ℕ) → Facts → Option Ending → ℕ
load c m n f ending = own_load c m f + peer_load c n f + close_load c f.connection.phase ending

-- an end between two calls has still to tell the numbers that it applied since its last turn
abbrev pub load_at : (m n : ℕ) → State → ℕ
load_at m n s = load s.config m n s.facts s.ending + 4 * length s.untold
