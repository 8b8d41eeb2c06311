-- That on a connection that goes on nothing is lost and nothing doubled: a reply, and any other call, moves what is under way and what
-- waits for it by the same number.
use Rattle.std.specs.Prelude.{◌≡◌, ⊤, ◌+◌, ◌≤◌, ◌||◌, Bool, true, false, List, Some, None, is_some, IsSome}
use Rattle.fixp_msgs.specs.Message.{Message, retransmission}
use Rattle.flow_recover.specs.Receiving.{Receiving}
use Rattle.flow_retrans.specs.declared.request.Request.{Request}
use Rattle.flow_retrans.specs.declared.request.Request.TheVariants as requests
use Rattle.flow_retrans.specs.Requests.{outstanding, is_coming}
use Rattle.fixp_shake.specs.Phases.{is_idle, is_negotiating, is_establishing, is_closing, is_shaken}
use Rattle.fixp_replies.specs.declared.facts.Facts.{Facts}
use Rattle.fixp_replies.specs.Incoming.{Incoming, session}
use Rattle.fixp_replies.specs.Facts.{Around, is_initiator, gap_of}
use Rattle.fixp_replies.specs.Replies.{reply_of}
use Rattle.fixp_machine.specs.Machine.{State, Call, begin, frame, bad_frame, did, tick, turn_done, closed, link_end, live, again, taken, reserve, held_done, front_of, step}
use Rattle.connection_laws.specs.Writing.{Piece, writes}
use Rattle.drain_laws.specs.Counts.{finish, answer, request, restart, opening, shutting, among, in_frame, under_way, read, answered, told, exchanged, unanswered, unshaken}
use Rattle.drain_laws.specs.Frames.{Fills}

-- Of the facts before a frame and behind it, and what is written. The finishes: one that comes waits or is answered, an answer takes one
-- that was told, and none is told in reply. What comes is answered once, where none was answered before
pub record FinishesEven (f : Facts) (i : Incoming) (g : Facts) (ms : List Message) : Type 0 where
  pub read : read f + in_frame finish i ≤ 1 → read g + among answer ms ≡ read f + in_frame finish i
  pub told : told f ≡ told g + in_frame answer i
  pub quiet : among finish ms ≡ 0
  pub answered : answered f + in_frame finish i ≤ 1 → answered g ≡ answered f + among answer ms
  pub exchanged : exchanged g ≡ exchanged f + in_frame answer i

-- the requests: what is written opens one, an answer is of one that is open, and each that is read is answered
pub record AsksEven (f : Facts) (i : Incoming) (g : Facts) (ms : List Message) : Type 0 where
  pub once : in_frame restart i ≤ unanswered f → unanswered g + in_frame restart i ≡ unanswered f + among request ms
  pub served : among restart ms ≡ in_frame request i

-- The handshake: an acceptor answers each of its messages by one, and so does an initiator, but the one that ends it. An acceptor asks
-- for none. No reply closes the connection, and with none does an initiator open it
pub record OpensEven (initiates : Bool) (f : Facts) (i : Incoming) (g : Facts) (ms : List Message) : Type 0 where
  pub initiator : initiates ≡ true → among opening ms + unshaken f ≡ in_frame opening i + unshaken g
  pub acceptor : initiates ≡ false → (is_negotiating f.connection.phase || is_establishing f.connection.phase) ≡ false → among opening ms ≡ in_frame opening i
  pub shuts : among shutting ms ≡ 0
  pub closing : is_closing g.connection.phase ≡ false
  pub stays : is_shaken f.connection.phase ≡ true → is_shaken g.connection.phase ≡ true
  pub idle : initiates ≡ true → is_idle f.connection.phase ≡ true → is_idle g.connection.phase ≡ true

-- what comes in comes by its numbers, and what is asked for lies below the live number
abbrev pub ComesBy : Receiving → Request → Type 0
ComesBy r requests.Nothing = ⊤
ComesBy r (requests.Asked range) = (r.again ≡ None) × (range.from + range.count ≤ r.live)
ComesBy r (requests.Coming range next left) = r.again ≡ Some next

-- a Retransmission is of all that was asked for
abbrev pub IsAnswer : Facts → Incoming → Type 0
IsAnswer f (session (retransmission id next timestamp count)) = f.connection.requester ≡ requests.Asked (record { from = next; count = count })
IsAnswer f i = ⊤

pub record Evens (initiates : Bool) (f : Facts) (i : Incoming) (g : Facts) (ms : List Message) : Type 0 where
  pub finishes : FinishesEven f i g ms
  pub asks : AsksEven f i g ms
  pub opens : OpensEven initiates f i g ms
  pub fills : Fills f.connection.receiver.next f.connection.requester → ComesBy f.connection.receiver f.connection.requester → IsAnswer f i
      → Fills g.connection.receiver.next g.connection.requester

-- something is asked for, or comes in
abbrev pub HasRequest : Facts → Type 0
HasRequest f = is_some (outstanding f.connection.requester) ≡ true

-- A finish that waits for a gap waits for a request, where that was so before, and where a finish comes to no soft reader that has a gap
abbrev pub WaitsOn : Around → Facts → Incoming → Facts → Type 0
WaitsOn x f i g = (in_frame finish i ≡ 1 → f.connection.soft ≡ true → gap_of x f ≡ None) → (read f ≡ 1 → HasRequest f) → read g ≡ 1 → HasRequest g

-- each reply with which a connection goes on that this end has not begun to close
abbrev pub RepliesEven : Type 0
RepliesEven = (x : Around) (f : Facts) (i : Incoming) → is_closing f.connection.phase ≡ false → (reply_of x f i).ending ≡ None
    → Evens (is_initiator x.config.role) f i (reply_of x f i).next (reply_of x f i).written × WaitsOn x f i (reply_of x f i).next

-- what is asked for stays so also at an end that has begun to close
abbrev pub FillsStay : Type 0
FillsStay = (x : Around) (f : Facts) (i : Incoming) → Fills f.connection.receiver.next f.connection.requester → ComesBy f.connection.receiver f.connection.requester
    → IsAnswer f i → (reply_of x f i).ending ≡ None → Fills (reply_of x f i).next.connection.receiver.next (reply_of x f i).next.connection.requester

-- a call other than the beginning of a connection, a frame and its act
abbrev pub IsBeside : Call → Type 0
IsBeside (begin now) = ⊥
IsBeside (frame incoming at now) = ⊥
IsBeside (bad_frame at now) = ⊥
IsBeside (did now) = ⊥
IsBeside (tick now) = ⊤
IsBeside (turn_done now) = ⊤
IsBeside (closed last now) = ⊤
IsBeside link_end = ⊤
IsBeside (live payloads now) = ⊤
IsBeside (again payloads now) = ⊤
IsBeside (taken count) = ⊤
IsBeside reserve = ⊤
IsBeside held_done = ⊤

-- It tells a finish at most, which is open until then, and writes nothing else that is counted; what is read and asked for stays. A held
-- message is applied only while messages come in
pub record StaysEven (s t : State) (out : List Piece) : Type 0 where
  pub told : told t.facts ≡ told s.facts + under_way finish out
  pub exchanged : exchanged t.facts ≡ exchanged s.facts
  pub theirs : t.facts.connection.peer_finish ≡ s.facts.connection.peer_finish
  pub requester : t.facts.connection.requester ≡ s.facts.connection.requester
  pub phase : t.facts.connection.phase ≡ s.facts.connection.phase
  pub answers : under_way answer out ≡ 0
  pub requests : under_way request out ≡ 0
  pub restarts : under_way restart out ≡ 0
  pub openings : under_way opening out ≡ 0
  pub closings : under_way shutting out ≡ 0
  pub fills : (IsSome (front_of s) → is_coming s.facts.connection.requester ≡ true) → Fills s.facts.connection.receiver.next s.facts.connection.requester
      → Fills t.facts.connection.receiver.next t.facts.connection.requester

-- each such call behind which the connection goes on, and which does not begin to close it
abbrev pub CallsEven : Type 0
CallsEven = (s : State) (call : Call) → IsBeside call → (step s call).ending ≡ None → is_closing (step s call).facts.connection.phase ≡ false
    → StaysEven s (step s call) (writes s call)
