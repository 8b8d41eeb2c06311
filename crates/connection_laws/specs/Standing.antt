-- What holds of a connection at every moment, and when a call may come on it.
use Rattle.std.specs.Prelude.{◌≡◌, ⊤, ℕ, ◌+◌, ◌≤◌, true, false, if◌then◌else◌, List, [], ◌∷◌, ◌++◌, length, take, Option, Some, None, option_map, IfSome, IsSome, IsTrue, Contains}
use Rattle.std.specs.List.{AllByRecursion}
use mathlib.Core.List.{IsPrefix}
use Rattle.session_model.specs.Journal.{Entry, IsEntry}
use Rattle.session_model.specs.Inbox.{InboxRecord, Numbered, skips, next_number}
use Rattle.session_model.specs.Events.{Event, announce, handshake, numbered, standing, messages, TrueOfJournal, Rising, HandshakeFirst, BeginsWithHandshake}
use Rattle.session_model.specs.Growth.{Grown}
use Rattle.fixp_msgs.specs.declared.numbering.Range.{Range}
use Rattle.fixp_msgs.specs.declared.flow.Flow.{Flow}
use Rattle.fixp_msgs.specs.declared.flow.Flow.TheVariants as flows
use Rattle.fixp_shake.specs.Flows.{is_recoverable, is_sequenced, is_absent}
use Rattle.fixp_shake.specs.Phases.{is_idle, is_established, is_shaken}
use Rattle.fixp_replies.specs.declared.facts.Facts.{Facts}
use Rattle.fixp_replies.specs.Acts.{is_record}
use Rattle.fixp_machine.specs.Machine.{State, Call, begin, frame, bad_frame, did, tick, turn_done, closed, link_end, live, again, taken, reserve, held_done, MayCall}
use Rattle.fixp_machine.specs.Accepting.{model_flow, records_of, Agrees}
use Rattle.connection_laws.specs.Writing.{bytes_written, events_written, ranges_told, is_reached}
use Rattle.connection_laws.specs.Courses.{Waiting, Course, inbox_of, beginning, reply_to, accepted_by, next_course, course_after, Continues}

-- the number that the own flow announces: the next live one; a flow without numbers has none
abbrev pub number_told : Flow → Facts → Option ℕ
number_told own f = if is_sequenced own then Some (f.recorded.sent + 1) else None

-- the number of the next message of the own flow: of the next live one, and while a range is sent again that of its next one
abbrev pub number_at : (next : ℕ) → Option Range → ℕ
number_at next None = next
number_at next (Some r) = r.from

abbrev pub next_written : Facts → ℕ
next_written f = number_at (f.recorded.sent + 1) f.connection.serving

-- what is to stand announced of the own flow: nothing before the handshake's announcement, which is the first event, and from
-- then on the number of the next message
abbrev pub to_stand : Facts → List Event → Option ℕ
to_stand f [] = None
to_stand f (e ∷ es) = Some (next_written f)

-- What holds of the own flow, where the outbox has these entries, so many were sent when the connection began, and these events
-- were written. Until the handshake is done they are copies of its announcement: none before the connection is opened, and there
-- is one once it is awaited. A flow with numbers is true of the outbox, and stands announced as it is to; one without rises through
-- the entries sent; and on none no message is written
pub record OwnFlow (own : Flow) (h : List Entry) (before : ℕ) (f : Facts) (written : List Event) : Type 0 where
  pub enough : f.recorded.sent ≤ length h
  pub handshakes : HandshakeFirst written
  pub opening : is_shaken f.connection.phase ≡ false → AllByRecursion (λ (e : Event). e ≡ announce handshake (number_told own f)) written
  pub unopened : is_idle f.connection.phase ≡ true → written ≡ []
  pub free : is_shaken f.connection.phase ≡ false → f.connection.serving ≡ None
  pub reached : is_reached f.connection.phase ≡ true → 1 ≤ length written
  pub served : is_recoverable own ≡ false → f.connection.serving ≡ None
  pub true_of : is_sequenced own ≡ true → TrueOfJournal h None written
  pub stands : is_sequenced own ≡ true → standing None written ≡ to_stand f written
  pub grows : own ≡ flows.Unsequenced → before ≤ f.recorded.sent
  pub rises : own ≡ flows.Unsequenced → Rising (take f.recorded.sent h) before (messages written)
  pub absent : is_absent own ≡ true → messages written ≡ []

-- A connection stands. The inbox has grown over what was accepted, and the facts agree with it. What was accepted begins with
-- the handshake, and is nothing before that is done. A pending outcome is the reply to the frame that waits, and its act is a
-- record. The own flow is as it has to be. Told are exactly the ranges that were skipped. What was written are the bytes
-- that the link took and those that are unsent. And each message that is held came, with its number, on a recoverable flow
pub record Stands (h : List Entry) (c : Course) : Type 0 where
  pub begun : c.state.begun ≡ true
  pub grown : Grown (model_flow c.state.config.peer_flow) None c.accepted c.start (inbox_of c)
  pub agrees : Agrees c.state.config.peer_flow (standing None c.accepted) c.state.facts (inbox_of c)
  pub begins : BeginsWithHandshake c.accepted
  pub unheard : is_shaken c.state.facts.connection.phase ≡ false → c.accepted ≡ []
  pub heard : is_shaken c.state.facts.connection.phase ≡ true → 1 ≤ length c.accepted
  pub pends : c.state.pending ≡ option_map (reply_to c.state) c.waiting
  pub records : IfSome c.waiting (λ w. IsTrue (is_record (reply_to c.state w).act))
  pub own : OwnFlow c.state.config.own_flow h c.sent_before c.state.facts (events_written c.output)
  pub tells : ranges_told c.output ≡ skips c.added
  pub bytes : bytes_written c.output ≡ c.taken ++ c.state.unsent
  pub came : AllByRecursion (λ (m : Numbered). Contains (numbered None c.accepted) m) c.state.held
  pub held_on : is_recoverable c.state.config.peer_flow ≡ false → c.state.held ≡ []

-- payloads are the entries of an outbox from this number on
abbrev pub AreEntries : List Entry → ℕ → List (List ℕ) → Type 0
AreEntries h n [] = ⊤
AreEntries h n (payload ∷ later) = IsEntry h n payload × AreEntries h (n + 1) later

-- the connection is open: it was begun, has not ended, and no act is still to be done
pub record IsOpen (s : State) : Type 0 where
  pub begun : s.begun ≡ true
  pub going : s.ending ≡ None
  pub done : s.pending ≡ None

-- entries go live where the handshake is done and nothing is sent again: those behind the last that was sent
pub record MayGoLive (h : List Entry) (s : State) (payloads : List (List ℕ)) : Type 0 where
  pub is_open : IsOpen s
  pub established : is_established s.facts.connection.phase ≡ true
  pub flow : is_absent s.config.own_flow ≡ false
  pub free : s.facts.connection.serving ≡ None
  pub entries : AreEntries h (s.facts.recorded.sent + 1) payloads

-- entries go again where a range is served: those at its front
pub record MayGoAgain (h : List Entry) (s : State) (payloads : List (List ℕ)) : Type 0 where
  pub is_open : IsOpen s
  pub range : Range
  pub serves : s.facts.connection.serving ≡ Some range
  pub within : length payloads ≤ range.count
  pub entries : AreEntries h range.from payloads

-- when a call may come on a connection that was begun, where the outbox has these entries
abbrev pub MayComeOn : List Entry → State → Call → Type 0
MayComeOn h s (begin now) = ⊥
MayComeOn h s (frame incoming at now) = IsOpen s
MayComeOn h s (bad_frame at now) = IsOpen s
MayComeOn h s (did now) = IsSome s.pending
MayComeOn h s (tick now) = ⊤
MayComeOn h s (turn_done now) = ⊤
MayComeOn h s (closed last now) = ⊤
MayComeOn h s link_end = ⊤
MayComeOn h s (live payloads now) = MayGoLive h s payloads
MayComeOn h s (again payloads now) = MayGoAgain h s payloads
MayComeOn h s (taken count) = count ≤ length s.unsent
MayComeOn h s reserve = ⊤
MayComeOn h s held_done = IsOpen s

pub record MayStand (h : List Entry) (s : State) (call : Call) : Type 0 where
  pub may_call : MayCall s call
  pub comes : MayComeOn h s call

-- each of some calls may come where those before it have brought the connection
abbrev pub AllMayStand : List Entry → Course → List Call → Type 0
AllMayStand h c [] = ⊤
AllMayStand h c (call ∷ later) = MayStand h c.state call × AllMayStand h (next_course c call) later

-- a connection that begins stands, where the end awaits the inbox's next number and has sent no more than the outbox has
abbrev pub ConnectionBegins : Type 0
ConnectionBegins = (h : List Entry) (s : State) (inbox : List InboxRecord) (now : ℕ)
    → s.facts.recorded.inbox_next ≡ next_number inbox → s.facts.recorded.sent ≤ length h → Stands h (beginning s inbox now)

-- so does one that begins behind another, over what that has left
abbrev pub BeginsAgain : Type 0
BeginsAgain = (h : List Entry) (c : Course) (now : ℕ) → Stands h c → Stands h (next_course c (begin now))

-- each call that may come on a connection keeps it standing
abbrev pub CallKeeps : Type 0
CallKeeps = (h : List Entry) (c : Course) (call : Call) → Stands h c → MayStand h c.state call → Stands h (next_course c call)

-- and so does any list of calls
abbrev pub CallsKeep : Type 0
CallsKeep = (h : List Entry) (c : Course) (calls : List Call) → Stands h c → AllMayStand h c calls → Stands h (course_after c calls)

-- what it has come to goes on
abbrev pub CallsGoOn : Type 0
CallsGoOn = (h : List Entry) (c : Course) (calls : List Call) → AllMayStand h c calls → Continues c (course_after c calls)

-- it stands over any outbox that begins with these entries
abbrev pub StandsLonger : Type 0
StandsLonger = (h longer : List Entry) (c : Course) → IsPrefix h longer → Stands h c → Stands longer c

-- where a frame waits for its act, the inbox is grown over its event too, once it has the records of its act
abbrev pub WaitingGrows : Type 0
WaitingGrows = (h : List Entry) (c : Course) (w : Waiting) → Stands h c → c.waiting ≡ Some w
    → Grown (model_flow c.state.config.peer_flow) None (c.accepted ++ accepted_by (reply_to c.state w) w.incoming) c.start
    (inbox_of c ++ records_of (reply_to c.state w).act w.incoming)
