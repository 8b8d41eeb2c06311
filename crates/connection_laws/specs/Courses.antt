-- How a connection goes over the calls of its end: what is accepted of the peer's flow, what is added to the inbox, what is written.
use Rattle.std.specs.Prelude.{◌≡◌, ℕ, if◌then◌else◌, List, [], ◌∷◌, ◌++◌, take, Option, Some, None, option_to_list}
use mathlib.Core.List.{IsPrefix}
use Rattle.session_model.specs.Inbox.{InboxRecord, Numbered}
use Rattle.session_model.specs.Events.{Event}
use Rattle.fixp_replies.specs.Acts.{is_record}
use Rattle.fixp_replies.specs.Incoming.{Incoming}
use Rattle.fixp_replies.specs.Outcomes.{Outcome}
use Rattle.fixp_replies.specs.Replies.{reply_of}
use Rattle.fixp_machine.specs.Machine.{State, Call, begin, frame, did, taken, held_done, front_of, around, connected, step, run}
use Rattle.fixp_machine.specs.Accepting.{event_of, records_of}
use Rattle.connection_laws.specs.Writing.{Piece, writes}

-- a frame whose act is still to be done: its message, classified, its place and its moment
pub record Waiting : Type 0 where
  pub incoming : Incoming
  pub at : ℕ
  pub moment : ℕ

-- A connection so far: the state of the end. The records of the inbox at its beginning, and how many entries were sent by
-- then. Since then the accepted events of the peer's flow, the records added to the inbox, and the frame that waits for its
-- act, whose event and records are not counted yet. The frames written, and the bytes that the link took of them
pub record Course : Type 0 where
  pub state : State
  pub start : List InboxRecord
  pub sent_before : ℕ
  pub accepted : List Event
  pub added : List InboxRecord
  pub waiting : Option Waiting
  pub output : List Piece
  pub taken : List ℕ

abbrev pub inbox_of : Course → List InboxRecord
inbox_of c = c.start ++ c.added

-- a connection begins over an inbox
abbrev pub beginning : State → List InboxRecord → (now : ℕ) → Course
beginning s inbox now = record {
  state = connected s now;
  start = inbox;
  sent_before = s.facts.recorded.sent;
  accepted = [];
  added = [];
  waiting = None;
  output = writes s (begin now);
  taken = [];
}

-- the reply to a frame
abbrev pub reply_to : State → Waiting → Outcome
reply_to s w = reply_of (around s w.at w.moment) s.facts w.incoming

-- the event of a frame, where it is accepted
abbrev pub accepted_by : Outcome → Incoming → List Event
accepted_by o i = if o.accepted then option_to_list (event_of i) else []

-- an outcome takes effect
abbrev pub counting : Course → Outcome → Incoming → Course
counting c o i = record c { accepted = c.accepted ++ accepted_by o i; added = c.added ++ records_of o.act i; waiting = None }

-- a frame that waits no longer where the connection has ended, and so nothing is pending
abbrev pub still_waiting : Option Outcome → Option Waiting → Option Waiting
still_waiting None w = None
still_waiting (Some o) w = w

-- a call changes the state, and writes
abbrev pub called : Course → Call → Course
called c call = record c {
  state = step c.state call;
  waiting = still_waiting (step c.state call).pending c.waiting;
  output = c.output ++ writes c.state call;
}

-- where the act of a frame is a record, its outcome takes effect once the act is done
abbrev pub next_framed : Course → Waiting → Outcome → Course
next_framed c w o = if is_record o.act then record (called c (frame w.incoming w.at w.moment)) { waiting = Some w }
    else counting (called c (frame w.incoming w.at w.moment)) o w.incoming

abbrev pub next_done : Course → Option Outcome → Option Waiting → Course
next_done c None w = c
next_done c (Some o) None = c
next_done c (Some o) (Some w) = counting c o w.incoming

-- a held message was applied
abbrev pub next_held : Course → Option Numbered → Course
next_held c None = c
next_held c (Some m) = record c { added = c.added ++ InboxRecord.apply m ∷ [] }

abbrev pub next_course : Course → Call → Course
next_course c (begin now) = beginning c.state (inbox_of c) now
next_course c (frame incoming at now) = next_framed c (record { incoming = incoming; at = at; moment = now })
    (reply_of (around c.state at now) c.state.facts incoming)
next_course c (did now) = next_done (called c (did now)) c.state.pending c.waiting
next_course c (taken count) = record (called c (taken count)) { taken = c.taken ++ take count c.state.unsent }
next_course c held_done = next_held (called c held_done) (front_of c.state)
next_course c call = called c call

abbrev pub course_after : Course → List Call → Course
course_after c [] = c
course_after c (call ∷ later) = course_after (next_course c call) later

-- what a connection has come to begins what it comes to later: it goes on from the same beginning, with the same configuration
pub record Continues (c d : Course) : Type 0 where
  pub config : d.state.config ≡ c.state.config
  pub start : d.start ≡ c.start
  pub sent_before : d.sent_before ≡ c.sent_before
  pub accepted : IsPrefix c.accepted d.accepted
  pub added : IsPrefix c.added d.added
  pub output : IsPrefix c.output d.output
  pub taken : IsPrefix c.taken d.taken

-- a connection has come to the state to which the calls bring the machine
abbrev pub StateIsRun : Type 0
StateIsRun = (c : Course) (calls : List Call) → (course_after c calls).state ≡ run c.state calls
