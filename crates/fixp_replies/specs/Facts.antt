-- What a reply depends on: what stands around it, what is recorded, and what is known of the connection.
use Rattle.std.specs.Prelude.{ℕ, ◌+◌, ◌&&◌, ◌||◌, min, Bool, true, false, List, Option, Some, None, is_some, unwrap_or, if◌then◌else◌}
use Rattle.std.specs.Str.{bytes_eq}
use Rattle.fixp_msgs.specs.declared.numbering.Range.{Range}
use Rattle.flow_recover.specs.Receiving as receiver_is
use Rattle.flow_recover.specs.Receiving.{Receiving}
use Rattle.flow_retrans.specs.declared.request.Request.{Request}
use Rattle.flow_retrans.specs.declared.request.Request.TheVariants.{Nothing, Asked}
use Rattle.flow_retrans.specs.Requests.{outstanding, first_of_gap}
use Rattle.fixp_shake.specs.declared.config.Role.{Role}
use Rattle.fixp_shake.specs.declared.config.Role.TheVariants.{Initiator, Acceptor}
use Rattle.fixp_shake.specs.declared.config.EndConfig.{EndConfig}
use Rattle.fixp_shake.specs.declared.phase.Phase.{Phase}
use Rattle.fixp_shake.specs.Phases.{is_shaken}
use Rattle.fixp_shake.specs.Flows.{is_recoverable, is_sequenced, is_absent}
use Rattle.fixp_replies.specs.declared.facts.EndState.{EndState}
use Rattle.fixp_replies.specs.declared.facts.Connection.{Connection}
use Rattle.fixp_replies.specs.declared.facts.Facts.{Facts}
use Rattle.fixp_replies.specs.declared.facts.Around as declared
use Rattle.fixp_replies.specs.declared.facts.OwnFinish.{OwnFinish}
use Rattle.fixp_replies.specs.declared.facts.OwnFinish.TheVariants as own
use Rattle.fixp_replies.specs.declared.facts.PeerFinish.{PeerFinish}
use Rattle.fixp_replies.specs.declared.facts.PeerFinish.TheVariants as peer

-- what stands around a reply: the configuration, the greatest number of an application message, the place of the frame in
-- the connection's bytes, the moment in milliseconds, and the least number of a message that is held past a gap
pub record Around : Type 0 where
  pub config : EndConfig
  pub most : ℕ
  pub at : ℕ
  pub moment : ℕ
  pub held : Option ℕ

-- the same in the code, which borrows the configuration
abbrev pub around_of : declared.Around → Around
around_of x = record { config = x.config.now; most = x.most; at = x.at; moment = x.moment; held = x.held }

abbrev pub is_initiator : Role → Bool
is_initiator Initiator = true
is_initiator Acceptor = false

-- a message names the session of this end
abbrev pub is_own : Around → List ℕ → Bool
is_own x id = bytes_eq id x.config.session

-- what is known of a connection that begins in this phase: no number is announced but the one that the inbox awaits, nothing
-- is asked for or served, no finish was told, and it is not soft
abbrev pub new_connection : EndState → Phase → Connection
new_connection recorded phase = record {
  phase = phase;
  receiver = receiver_is.fresh recorded.inbox_next;
  requester = Nothing;
  serving = None;
  own_finish = own.Open;
  peer_finish = peer.Open;
  peer_interval = 0;
  soft = false;
}

-- a connection begins in this phase: what is recorded stays
abbrev pub connecting : EndState → Phase → Facts
connecting recorded phase = record { recorded = recorded; connection = new_connection recorded phase }

-- the phase is this from then on
abbrev pub in_phase : Facts → Phase → Facts
in_phase f phase = record f { connection = record f.connection { phase = phase } }

-- this is expected of the peer's flow from then on
abbrev pub receiving : Facts → Receiving → Facts
receiving f r = record f { connection = record f.connection { receiver = r } }

-- the connection is not soft from then on: the peer has started
abbrev pub firm : Facts → Facts
firm f = record f { connection = record f.connection { soft = false } }

-- this is asked for from then on
abbrev pub requesting : Facts → Request → Facts
requesting f r = record f { connection = record f.connection { requester = r } }

-- this is still to be sent again from then on
abbrev pub serves : Facts → Option Range → Facts
serves f range = record f { connection = record f.connection { serving = range } }

-- the session is negotiated
abbrev pub negotiated : Facts → Facts
negotiated f = record f { recorded = record f.recorded { negotiated = true } }

-- the inbox awaits this number
abbrev pub awaiting : Facts → ℕ → Facts
awaiting f next = record f { recorded = record f.recorded { inbox_next = next } }

-- the number that the next live message of the peer's flow has: on a recoverable flow the one announced, else the inbox's next
abbrev pub live_number : Around → Facts → ℕ
live_number x f = if is_recoverable x.config.peer_flow then f.connection.receiver.live else f.recorded.inbox_next

-- the number that an announcement does not go below: on a recoverable flow the greater of the inbox's next, which the receiver
-- waits for, and the live number; while it is soft, the inbox's next alone
abbrev pub expected_number : Around → Facts → ℕ
expected_number x f =
    if is_recoverable x.config.peer_flow
    then (if f.connection.soft then f.connection.receiver.next else receiver_is.expected f.connection.receiver)
    else f.recorded.inbox_next

-- the number of the next application message, which inside a retransmission is the retransmission's
abbrev pub message_number : Around → Facts → ℕ
message_number x f = if is_recoverable x.config.peer_flow then receiver_is.number f.connection.receiver else f.recorded.inbox_next

-- the number that this end announces of its own flow: one past the last that was sent; a flow without numbers has none
abbrev pub announced_number : Around → Facts → Option ℕ
announced_number x f = if is_sequenced x.config.own_flow then Some (f.recorded.sent + 1) else None

-- the gap, which a recoverable flow alone has: it ends before the least number held, or before the live number where none is
abbrev pub gap_of : Around → Facts → Option Range
gap_of x f = if is_recoverable x.config.peer_flow then receiver_is.gap x.held f.connection.receiver else None

-- the gap that is to be asked for: there is one, nothing is asked for, and the peer has started
abbrev pub gap_to_ask : Around → Facts → Option Range
gap_to_ask x f = if f.connection.soft || is_some (outstanding f.connection.requester) then None else gap_of x f

-- the message with this number is held too
abbrev pub holding_too : Around → ℕ → Around
holding_too x n = record x { held = Some (min n (unwrap_or x.held n)) }

-- the facts once it is asked for
abbrev pub having_asked : Facts → Option Range → Facts
having_asked f None = f
having_asked f (Some g) = requesting f (Asked (first_of_gap g))

-- the last number of the peer's finish: of the one that came on this connection, else of the one that is recorded
abbrev pub last_among : Option ℕ → PeerFinish → Option ℕ
last_among recorded peer.Open = recorded
last_among recorded (peer.Read last) = Some last
last_among recorded (peer.Exchanged last) = Some last

abbrev pub peer_last : Facts → Option ℕ
peer_last f = last_among f.recorded.peer_last f.connection.peer_finish

-- FinishedSending came, and waits for a gap to be filled
abbrev pub awaits_gap : PeerFinish → Option ℕ
awaits_gap peer.Open = None
awaits_gap (peer.Read last) = Some last
awaits_gap (peer.Exchanged last) = None

abbrev pub is_told : OwnFinish → Bool
is_told own.Open = false
is_told own.Told = true
is_told own.Exchanged = false

abbrev pub is_open : OwnFinish → Bool
is_open own.Open = true
is_open own.Told = false
is_open own.Exchanged = false

abbrev pub own_is_exchanged : OwnFinish → Bool
own_is_exchanged own.Open = false
own_is_exchanged own.Told = false
own_is_exchanged own.Exchanged = true

abbrev pub peer_is_exchanged : PeerFinish → Bool
peer_is_exchanged peer.Open = false
peer_is_exchanged (peer.Read last) = false
peer_is_exchanged (peer.Exchanged last) = true

-- both finishes are exchanged on this connection. An absent flow counts as exchanged once the handshake is done
abbrev pub finishes_exchanged : Around → Facts → Bool
finishes_exchanged x f =
    (own_is_exchanged f.connection.own_finish || (is_absent x.config.own_flow && is_shaken f.connection.phase))
    && (peer_is_exchanged f.connection.peer_finish || (is_absent x.config.peer_flow && is_shaken f.connection.phase))
