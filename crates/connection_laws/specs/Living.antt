-- A life of the machine: connections one behind another, in the words of the session model.
use Rattle.std.specs.Prelude.{◌≡◌, ⊤, ℕ, ◌≤◌, Bool, List, [], ◌∷◌, length, Some}
use Rattle.session_model.specs.Journal.{Entry}
use Rattle.session_model.specs.Inbox.{InboxRecord, Numbered, next_number}
use Rattle.session_model.specs.Lives.{Served, served_on, KeepsConnections}
use Rattle.fixp_msgs.specs.declared.flow.Flow.TheVariants as flows
use Rattle.fixp_machine.specs.Machine.{State, Call, front_of}
use Rattle.fixp_machine.specs.Accepting.{model_flow}
use Rattle.connection_laws.specs.Writing.{Piece}
use Rattle.connection_laws.specs.Courses.{Waiting, Course, inbox_of, beginning, course_after}
use Rattle.connection_laws.specs.Standing.{AllMayStand}
use Rattle.connection_laws.specs.Connections.{WasTaken, AddsBehind, served_by, refused_by, refused_held, refused_tail}

-- one connection of a life: the moment of its beginning, the calls that came on it, the frames that the link took whole, and
-- whether all of its output was taken and it had not ended
pub record Leg : Type 0 where
  pub moment : ℕ
  pub calls : List Call
  pub whole : List Piece
  pub drained : Bool

-- where a connection has come to that begins in this state over this inbox
abbrev pub course_of : State → List InboxRecord → Leg → Course
course_of s inbox leg = course_after (beginning s inbox leg.moment) leg.calls

-- each call may come where it does, and the frames taken are the first of those written
pub record MayRun (h : List Entry) (s : State) (inbox : List InboxRecord) (leg : Leg) : Type 0 where
  pub calls : AllMayStand h (beginning s inbox leg.moment) leg.calls
  pub taken : WasTaken (course_of s inbox leg) leg.whole leg.drained

abbrev pub AllMayRun : List Entry → State → List InboxRecord → List Leg → Type 0
AllMayRun h s inbox [] = ⊤
AllMayRun h s inbox (leg ∷ later) = MayRun h s inbox leg × AllMayRun h (course_of s inbox leg).state (inbox_of (course_of s inbox leg)) later

-- the state and the inbox behind some connections, each of which begins where the one before has left them
abbrev pub state_behind : State → List InboxRecord → List Leg → State
state_behind s inbox [] = s
state_behind s inbox (leg ∷ later) = state_behind (course_of s inbox leg).state (inbox_of (course_of s inbox leg)) later

abbrev pub inbox_behind : State → List InboxRecord → List Leg → List InboxRecord
inbox_behind s inbox [] = inbox
inbox_behind s inbox (leg ∷ later) = inbox_behind (course_of s inbox leg).state (inbox_of (course_of s inbox leg)) later

-- what a life serves on them
abbrev pub life_on : State → List InboxRecord → List Leg → Served
life_on s inbox [] = record { opening_inbox = inbox; closing_inbox = inbox; refused_inbox = []; processed = 0; connections = [] }
life_on s inbox (leg ∷ later) =
    served_on (served_by (course_of s inbox leg) leg.whole leg.drained) (life_on (course_of s inbox leg).state (inbox_of (course_of s inbox leg)) later)

-- where a life opens: the end awaits the inbox's next number, and has sent no more than the outbox has; on a flow without
-- numbers the life opened on no more entries
pub record Opens (opened h : List Entry) (s : State) (inbox : List InboxRecord) : Type 0 where
  pub awaits : s.facts.recorded.inbox_next ≡ next_number inbox
  pub enough : s.facts.recorded.sent ≤ length h
  pub before : s.config.own_flow ≡ flows.Unsequenced → length opened ≤ s.facts.recorded.sent

-- over any connections, and any calls on each, a life keeps on its connections what the session model asks of it
abbrev pub LifeServes : Type 0
LifeServes = (opened h : List Entry) (s : State) (inbox : List InboxRecord) (legs : List Leg)
    → Opens opened h s inbox → AllMayRun h s inbox legs
    → KeepsConnections (model_flow s.config.own_flow) (model_flow s.config.peer_flow) opened h (life_on s inbox legs)

-- and so where on a last one the append of the records of the frame that waits failed
abbrev pub LifeRefused : Type 0
LifeRefused = (opened h : List Entry) (s : State) (inbox : List InboxRecord) (legs : List Leg) (last : Leg) (w : Waiting)
    → Opens opened h s inbox → AllMayRun h s inbox legs → MayRun h (state_behind s inbox legs) (inbox_behind s inbox legs) last
    → (course_of (state_behind s inbox legs) (inbox_behind s inbox legs) last).waiting ≡ Some w
    → KeepsConnections (model_flow s.config.own_flow) (model_flow s.config.peer_flow) opened h
    (served_on (life_on s inbox legs) (refused_by (course_of (state_behind s inbox legs) (inbox_behind s inbox legs) last) w last.whole last.drained))

-- or the append of the record of the held message that the inbox awaits
abbrev pub LifeRefusedHeld : Type 0
LifeRefusedHeld = (opened h : List Entry) (s : State) (inbox : List InboxRecord) (legs : List Leg) (last : Leg) (m : Numbered)
    → Opens opened h s inbox → AllMayRun h s inbox legs → MayRun h (state_behind s inbox legs) (inbox_behind s inbox legs) last
    → front_of (course_of (state_behind s inbox legs) (inbox_behind s inbox legs) last).state ≡ Some m
    → KeepsConnections (model_flow s.config.own_flow) (model_flow s.config.peer_flow) opened h
    (served_on (life_on s inbox legs) (refused_held (course_of (state_behind s inbox legs) (inbox_behind s inbox legs) last) m last.whole last.drained))

-- and so where on a last one the call failed that was to make records stable which further calls add
abbrev pub LifeRefusedTail : Type 0
LifeRefusedTail = (opened h : List Entry) (s : State) (inbox : List InboxRecord) (legs : List Leg) (last : Leg) (calls : List Call) (tried : List InboxRecord)
    → Opens opened h s inbox → AllMayRun h s inbox legs → MayRun h (state_behind s inbox legs) (inbox_behind s inbox legs) last
    → AddsBehind h (course_of (state_behind s inbox legs) (inbox_behind s inbox legs) last) calls tried
    → KeepsConnections (model_flow s.config.own_flow) (model_flow s.config.peer_flow) opened h
    (served_on (life_on s inbox legs)
    (refused_tail (course_of (state_behind s inbox legs) (inbox_behind s inbox legs) last)
    (course_after (course_of (state_behind s inbox legs) (inbox_behind s inbox legs) last) calls) tried last.whole last.drained))
