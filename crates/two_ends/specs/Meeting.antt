-- Two ends over their lives, whose connections are linked by the bytes that went over them.
use Rattle.std.specs.Prelude.{◌≡◌, ℕ, ◌≤◌, List, [], ◌∷◌, ◌++◌, map, flat_map, length, Option, Some, None, IfSome}
use Rattle.std.specs.List.{AllByRecursion}
use mathlib.Core.List.{IsPrefix}
use Rattle.session_model.specs.Journal.{Entry, entries}
use Rattle.session_model.specs.Inbox.{InboxRecord, next_number, applied, skips}
use Rattle.session_model.specs.Events.{Event}
use Rattle.session_model.specs.Growth as model
use Rattle.session_model.specs.Growth.{AppliesPrefix, SettlesOnce, DeliversRising}
use Rattle.session_model.specs.Lives.{Connection, Life, KeepsOutbox, Chained, Linked}
use Rattle.session_model.specs.Guarantee.{OneEnd, Session}
use Rattle.fixp_msgs.specs.declared.flow.Flow.{Flow}
use Rattle.fixp_msgs.specs.declared.flow.Flow.TheVariants as flows
use Rattle.fixp_machine.specs.Machine.{State, Call}
use Rattle.fixp_machine.specs.Accepting.{model_flow}
use Rattle.connection_laws.specs.Writing.{Piece, bytes_written}
use Rattle.connection_laws.specs.Framed.{IsLegalPiece}
use Rattle.connection_laws.specs.Courses.{Course, inbox_of, beginning, course_after}
use Rattle.connection_laws.specs.Standing.{AllMayStand}
use Rattle.connection_laws.specs.Connections.{connection_of}
use Rattle.connection_laws.specs.Living.{Leg, course_of, MayRun, AllMayRun, state_behind, inbox_behind, Opens}
use Rattle.turn_laws.specs.Came.{came}
use Rattle.turn_laws.specs.MachineLives.{Refusal, IsRefusedAt, Refused, MachineLife, life_in}
use Rattle.stranger_laws.specs.Opening.{opens, NoneIs}
use Rattle.two_ends.specs.GoingOn.{Boxes, new_boxes, HoldsOn}
use Rattle.two_ends.specs.Hearing.{CameFrom}

-- One connection of the machine: over an outbox with these entries it begins in this state, over this inbox. Where a call of the
-- inbox's disk failed on it, this is what it tried
pub record Run : Type 0 where
  pub outbox : List Entry
  pub state : State
  pub inbox : List InboxRecord
  pub leg : Leg
  pub refused : Option Refusal

abbrev pub course_in : Run → Course
course_in r = course_of r.state r.inbox r.leg

-- its calls, with those that add what such a call tried
abbrev pub calls_behind : Option Refusal → List Call
calls_behind None = []
calls_behind (Some q) = q.calls

abbrev pub heard_in : Run → List Call
heard_in r = r.leg.calls ++ calls_behind r.refused

-- what it accepted, with the events of the frames whose records were to be added
abbrev pub accepted_in : Course → Option Refusal → List Event
accepted_in c None = c.accepted
accepted_in c (Some q) = (course_after c q.calls).accepted

-- the connection in the session model's words
abbrev pub connection_in : Run → Connection
connection_in r = record (connection_of (course_in r) r.leg.whole r.leg.drained) { accepted = accepted_in (course_in r) r.refused }

-- it begins where the end awaits the inbox's next number and has sent no more than the outbox has, and each call may come
pub record MayBegin (r : Run) : Type 0 where
  pub awaits : r.state.facts.recorded.inbox_next ≡ next_number r.inbox
  pub enough : r.state.facts.recorded.sent ≤ length r.outbox
  pub calls : AllMayStand r.outbox (beginning r.state r.inbox r.leg.moment) r.leg.calls
  pub refused : IfSome r.refused (IsRefusedAt r.outbox (course_in r))

-- the frames that the link took whole, where these are the bytes that it took: of those written, the first, as far as it took all
-- of their bytes
pub record TookWhole (c : Course) (sent : List ℕ) (whole : List Piece) : Type 0 where
  pub first : IsPrefix whole c.output
  pub within : IsPrefix (bytes_written whole) sent
  pub all : (more : List Piece) → IsPrefix more c.output → IsPrefix (bytes_written more) sent → IsPrefix more whole

-- The frames that came to one end are the first of bytes that begin those that the link took of the other, which wrote legal ones.
-- What the link took are the first bytes of those written; a link that failed as it sent may have taken more than it said
pub record ReadsFrom (reader writer : Run) : Type 0 where
  pub sent : List ℕ
  pub written : IsPrefix sent (bytes_written (course_in writer).output)
  pub came : CameFrom sent (heard_in reader)
  pub legal : AllByRecursion IsLegalPiece (course_in writer).output
  pub whole : TookWhole (course_in writer) sent writer.leg.whole

-- Connections linked by bytes: paired in the same order at both ends, each in at most one pair. In a pair each end reads from
-- the other; to a connection in no pair no frame came that opens the session
pub data LinkedByBytes : List Run → List Run → Type 0 where
  no_more : LinkedByBytes [] []
  left_alone : {a : Run} {as' bs : List Run} → NoneIs (opens a.state.config) (came (heard_in a)) → LinkedByBytes as' bs → LinkedByBytes (a ∷ as') bs
  right_alone : {b : Run} {as' bs : List Run} → NoneIs (opens b.state.config) (came (heard_in b)) → LinkedByBytes as' bs → LinkedByBytes as' (b ∷ bs)
  paired : {a b : Run} {as' bs : List Run} → ReadsFrom a b → ReadsFrom b a → LinkedByBytes as' bs → LinkedByBytes (a ∷ as') (b ∷ bs)

abbrev pub LinksHold : Type 0
LinksHold = (as' bs : List Run) → AllByRecursion MayBegin as' → AllByRecursion MayBegin bs → LinkedByBytes as' bs
    → Linked (map connection_in as') (map connection_in bs)

-- its connections, one behind another
abbrev pub runs_on : List Entry → State → List InboxRecord → List Leg → List Run
runs_on h s inbox [] = []
runs_on h s inbox (leg ∷ later) =
    record { outbox = h; state = s; inbox = inbox; leg = leg; refused = None }
    ∷ runs_on h (course_of s inbox leg).state (inbox_of (course_of s inbox leg)) later

abbrev pub last_run : List Entry → State → List InboxRecord → Option Refused → List Run
last_run h s inbox None = []
last_run h s inbox (Some r) = record { outbox = h; state = s; inbox = inbox; leg = r.leg; refused = Some r.refusal } ∷ []

abbrev pub runs_of : MachineLife → List Run
runs_of l =
    runs_on (entries l.closing_outbox) l.state l.inbox l.legs
    ++ last_run (entries l.closing_outbox) (state_behind l.state l.inbox l.legs) (inbox_behind l.state l.inbox l.legs) l.last

-- on the last connection each call may come, and it has come to that call
pub record MayRefuse (h : List Entry) (s : State) (inbox : List InboxRecord) (r : Refused) : Type 0 where
  pub runs : MayRun h s inbox r.leg
  pub refuses : IsRefusedAt h (course_of s inbox r.leg) r.refusal

-- the life is of an end with these flows, opens where it may, and on each of its connections each call may come
pub record MayLive (own peer : Flow) (l : MachineLife) : Type 0 where
  pub own_flow : l.state.config.own_flow ≡ own
  pub peer_flow : l.state.config.peer_flow ≡ peer
  pub opens : Opens (entries l.opening_outbox) (entries l.closing_outbox) l.state l.inbox
  pub legs : AllMayRun (entries l.closing_outbox) l.state l.inbox l.legs
  pub last : IfSome l.last (MayRefuse (entries l.closing_outbox) (state_behind l.state l.inbox l.legs) (inbox_behind l.state l.inbox l.legs))

-- Two ends of the machine, whose journals held this at first: the flow that one sends the other receives; the lives of each are chained from those, may
-- leave these now, and keep their outboxes; and their connections are linked by bytes
pub record TwoEndsFrom (from_a from_b : Boxes) (a b : OneEnd Flow MachineLife) : Type 0 where
  pub lives_a : AllByRecursion (MayLive a.flow b.flow) a.lives
  pub lives_b : AllByRecursion (MayLive b.flow a.flow) b.lives
  pub chained_a : Chained from_a.outbox from_a.inbox (map life_in a.lives) a.outbox a.inbox
  pub chained_b : Chained from_b.outbox from_b.inbox (map life_in b.lives) b.outbox b.inbox
  pub outboxes_a : AllByRecursion (KeepsOutbox a.plan) (map life_in a.lives)
  pub outboxes_b : AllByRecursion (KeepsOutbox b.plan) (map life_in b.lives)
  pub linked : LinkedByBytes (flat_map runs_of a.lives) (flat_map runs_of b.lives)

-- and so from empty journals on
abbrev pub TwoEnds : (a b : OneEnd Flow MachineLife) → Type 0
TwoEnds a b = TwoEndsFrom new_boxes new_boxes a b

-- an end of the machine in the session model's words
abbrev pub end_in : OneEnd Flow MachineLife → OneEnd model.Flow Life
end_in e = record { flow = model_flow e.flow; plan = e.plan; lives = map life_in e.lives; outbox = e.outbox; inbox = e.inbox }

-- they are a session of the session model
abbrev pub SessionOfEnds : Type 0
SessionOfEnds = (a b : OneEnd Flow MachineLife) → TwoEnds a b → Session (end_in a) (end_in b)

-- what an inbox holds of the outbox of the peer, by the kind of the peer's flow
abbrev pub Holds : Flow → List Entry → List InboxRecord → Type 0
Holds flows.Recoverable outbox inbox = AppliesPrefix outbox inbox
Holds flows.Idempotent outbox inbox = SettlesOnce outbox inbox
Holds flows.Unsequenced outbox inbox = DeliversRising outbox inbox
Holds flows.None outbox inbox = (applied inbox ≡ []) × (skips inbox ≡ [])

-- so each inbox holds of the other's outbox what the session guarantee says
abbrev pub EndsHold : Type 0
EndsHold = (a b : OneEnd Flow MachineLife) → TwoEnds a b → Holds a.flow (entries a.outbox) b.inbox × Holds b.flow (entries b.outbox) a.inbox

-- and each inbox comes to hold of it, behind what it held at first, what goes on from that
abbrev pub EndsGoOn : Type 0
EndsGoOn = (from_a from_b : Boxes) (a b : OneEnd Flow MachineLife) → TwoEndsFrom from_a from_b a b
    → HoldsOn a.flow (entries from_a.outbox) (entries a.outbox) from_b.inbox b.inbox
    × HoldsOn b.flow (entries from_b.outbox) (entries b.outbox) from_a.inbox a.inbox

-- an inbox that held of the other's outbox what the session guarantee says, and went on so, still does
abbrev pub HoldingGoesOn : Type 0
HoldingGoesOn = (flow : Flow) (begun h : List Entry) (held inbox : List InboxRecord) → IsPrefix begun h
    → Holds flow begun held → HoldsOn flow begun h held inbox → Holds flow h inbox
