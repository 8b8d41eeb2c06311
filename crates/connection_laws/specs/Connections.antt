-- One connection in the words of the session model: what a life keeps that serves it.
use Rattle.std.specs.Prelude.{◌≡◌, ℕ, ◌≤◌, Bool, true, List, [], ◌∷◌, ◌++◌, length, take, Some}
use mathlib.Core.List.{IsPrefix}
use Rattle.session_model.specs.Journal.{Entry}
use Rattle.session_model.specs.Inbox.{InboxRecord, Numbered, next_number}
use Rattle.session_model.specs.Events.{Event}
use Rattle.session_model.specs.Growth as model
use Rattle.session_model.specs.Lives.{Connection, Served, Writes, KeepsConnections}
use Rattle.fixp_msgs.specs.declared.flow.Flow.TheVariants as flows
use Rattle.fixp_machine.specs.Machine.{State, Call, front_of}
use Rattle.fixp_machine.specs.Accepting.{model_flow, records_of}
use Rattle.connection_laws.specs.Writing.{Piece, events_written, ranges_told}
use Rattle.connection_laws.specs.Courses.{Waiting, Course, inbox_of, beginning, reply_to, accepted_by, course_after}
use Rattle.connection_laws.specs.Standing.{Stands, AllMayStand}

-- of the frames written the link took these whole, the first of them; it took all, where the connection is drained
pub record WasTaken (c : Course) (whole : List Piece) (drained : Bool) : Type 0 where
  pub first : IsPrefix whole c.output
  pub all : drained ≡ true → whole ≡ c.output

-- the connection, of whose frames the link took these
abbrev pub connection_of : Course → List Piece → Bool → Connection
connection_of c whole drained = record {
  accepted = c.accepted;
  written = events_written whole;
  added = c.added;
  reported = ranges_told whole;
  drained = drained;
}

-- a life that served it, and none of whose records was refused
abbrev pub served_by : Course → List Piece → Bool → Served
served_by c whole drained = record {
  opening_inbox = c.start;
  closing_inbox = inbox_of c;
  refused_inbox = [];
  processed = length c.accepted;
  connections = connection_of c whole drained ∷ [];
}

-- a life that served it, until the append of the records of the frame that waits failed: the frame is accepted, and not
-- processed for sure
abbrev pub refused_by : Course → Waiting → List Piece → Bool → Served
refused_by c w whole drained = record {
  opening_inbox = c.start;
  closing_inbox = inbox_of c;
  refused_inbox = records_of (reply_to c.state w).act w.incoming;
  processed = length c.accepted;
  connections = record (connection_of c whole drained) { accepted = c.accepted ++ accepted_by (reply_to c.state w) w.incoming } ∷ [];
}

-- a life that served it, until the append of the record of the held message that the inbox awaits failed: all frames were processed
abbrev pub refused_held : Course → Numbered → List Piece → Bool → Served
refused_held c m whole drained = record (served_by c whole drained) { refused_inbox = InboxRecord.apply m ∷ [] }

-- Behind a connection these calls may come, each where it comes, and what they add are these records, and no more
pub record AddsBehind (h : List Entry) (c : Course) (calls : List Call) (records : List InboxRecord) : Type 0 where
  pub may : AllMayStand h c calls
  pub added : (course_after c calls).added ≡ c.added ++ records
  pub none : records ≡ [] → calls ≡ []

-- A life that served it, until the call of the disk failed that was to make these records stable, all together: the end had heard the
-- frames of them, as far as `behind`. Those heard before are processed for sure
abbrev pub refused_tail : (c behind : Course) → (tried : List InboxRecord) → List Piece → Bool → Served
refused_tail c behind tried whole drained = record {
  opening_inbox = c.start;
  closing_inbox = inbox_of c;
  refused_inbox = tried;
  processed = length c.accepted;
  connections = record (connection_of c whole drained) { accepted = behind.accepted } ∷ [];
}

-- the life opened on no more entries than were sent when the connection began, which counts on a flow without numbers
abbrev pub OpenedBefore : Course → List Entry → Type 0
OpenedBefore c opened = c.state.config.own_flow ≡ flows.Unsequenced → length opened ≤ c.sent_before

-- a connection that stands is one that a life may have served, whatever of its frames the link took
abbrev pub ConnectionKept : Type 0
ConnectionKept = (opened h : List Entry) (c : Course) (whole : List Piece) (drained : Bool)
    → Stands h c → OpenedBefore c opened → WasTaken c whole drained
    → KeepsConnections (model_flow c.state.config.own_flow) (model_flow c.state.config.peer_flow) opened h (served_by c whole drained)

abbrev pub RefusedKept : Type 0
RefusedKept = (opened h : List Entry) (c : Course) (w : Waiting) (whole : List Piece) (drained : Bool)
    → Stands h c → c.waiting ≡ Some w → OpenedBefore c opened → WasTaken c whole drained
    → KeepsConnections (model_flow c.state.config.own_flow) (model_flow c.state.config.peer_flow) opened h (refused_by c w whole drained)

abbrev pub RefusedHeldKept : Type 0
RefusedHeldKept = (opened h : List Entry) (c : Course) (m : Numbered) (whole : List Piece) (drained : Bool)
    → Stands h c → front_of c.state ≡ Some m → OpenedBefore c opened → WasTaken c whole drained
    → KeepsConnections (model_flow c.state.config.own_flow) (model_flow c.state.config.peer_flow) opened h (refused_held c m whole drained)

-- a connection that stands is one that a life may have served until such a call failed, whatever calls were to come
abbrev pub TailKept : Type 0
TailKept = (opened h : List Entry) (c : Course) (calls : List Call) (tried : List InboxRecord) (whole : List Piece) (drained : Bool)
    → Stands h c → AddsBehind h c calls tried → OpenedBefore c opened → WasTaken c whole drained
    → KeepsConnections (model_flow c.state.config.own_flow) (model_flow c.state.config.peer_flow) opened h
    (refused_tail c (course_after c calls) tried whole drained)

-- So whatever calls come on a connection from its beginning on, where each may come, it is one that a life may have served
abbrev pub ConnectionServes : Type 0
ConnectionServes = (opened h : List Entry) (s : State) (inbox : List InboxRecord) (now : ℕ) (calls : List Call) (whole : List Piece) (drained : Bool)
    → s.facts.recorded.inbox_next ≡ next_number inbox → s.facts.recorded.sent ≤ length h
    → (s.config.own_flow ≡ flows.Unsequenced → length opened ≤ s.facts.recorded.sent)
    → AllMayStand h (beginning s inbox now) calls → WasTaken (course_after (beginning s inbox now) calls) whole drained
    → KeepsConnections (model_flow s.config.own_flow) (model_flow s.config.peer_flow) opened h
    (served_by (course_after (beginning s inbox now) calls) whole drained)

-- the entries in which what was written of a flow stands, where so many were sent: on a flow without numbers those alone
abbrev pub sent_part : model.Flow → ℕ → List Entry → List Entry
sent_part model.recoverable n h = h
sent_part model.idempotent n h = h
sent_part model.unsequenced n h = take n h
sent_part model.no_flow n h = h

-- What earlier connections of a life wrote, and then one that stands, is what a life may write; and so for the next one behind it
abbrev pub WritingGoesOn : Type 0
WritingGoesOn = (opened h longer : List Entry) (c : Course) (whole : List Piece) (earlier : List (List Event))
    → IsPrefix h longer → c.sent_before ≤ length h → Stands longer c → OpenedBefore c opened → IsPrefix whole c.output
    → Writes (model_flow c.state.config.own_flow) opened (sent_part (model_flow c.state.config.own_flow) c.sent_before h) earlier
    → Writes (model_flow c.state.config.own_flow) opened (sent_part (model_flow c.state.config.own_flow) c.state.facts.recorded.sent longer)
    (earlier ++ events_written whole ∷ [])

-- and it is what a life may write
abbrev pub PartIsWritten : Type 0
PartIsWritten = (flow : model.Flow) (opened h : List Entry) (n : ℕ) (written : List (List Event))
    → Writes flow opened (sent_part flow n h) written → Writes flow opened h written
