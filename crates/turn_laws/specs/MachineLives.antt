-- One life of the machine, and a last connection of it on which a call of the inbox's disk failed.
use Rattle.std.specs.Prelude.{Bool, List, Option, Some, None}
use Rattle.session_model.specs.Journal.{Entry, OutboxRecord}
use Rattle.session_model.specs.Inbox.{InboxRecord}
use Rattle.session_model.specs.Lives.{Served, Life, served_on}
use Rattle.fixp_machine.specs.Machine.{State, Call}
use Rattle.connection_laws.specs.Writing.{Piece}
use Rattle.connection_laws.specs.Courses.{Course, course_after}
use Rattle.connection_laws.specs.Connections.{AddsBehind, refused_tail}
use Rattle.connection_laws.specs.Living.{Leg, course_of, state_behind, inbox_behind, life_on}

-- what a call that failed was to make stable, all together, and the calls of the machine that add it
pub record Refusal : Type 0 where
  pub calls : List Call
  pub tried : List InboxRecord

-- a connection has come to such a call, over an outbox with these entries
abbrev pub IsRefusedAt : List Entry → Course → Refusal → Type 0
IsRefusedAt h c q = AddsBehind h c q.calls q.tried

-- what a life served on it
abbrev pub refused_of : Course → Refusal → List Piece → Bool → Served
refused_of c q whole drained = refused_tail c (course_after c q.calls) q.tried whole drained

-- a last connection of a life, on which such a call failed
pub record Refused : Type 0 where
  pub leg : Leg
  pub refusal : Refusal

-- a life of the machine: its outbox, the state and the inbox on which it opened, its connections, and such a last one, if any
pub record MachineLife : Type 0 where
  pub opening_outbox : List OutboxRecord
  pub closing_outbox : List OutboxRecord
  pub refused_outbox : List OutboxRecord
  pub state : State
  pub inbox : List InboxRecord
  pub legs : List Leg
  pub last : Option Refused

-- what it served
abbrev pub served_with : Served → State → List InboxRecord → Option Refused → Served
served_with served s inbox None = served
served_with served s inbox (Some r) = served_on served (refused_of (course_of s inbox r.leg) r.refusal r.leg.whole r.leg.drained)

abbrev pub life_in : MachineLife → Life
life_in l = record {
  opening_outbox = l.opening_outbox;
  closing_outbox = l.closing_outbox;
  refused_outbox = l.refused_outbox;
  served = served_with (life_on l.state l.inbox l.legs) (state_behind l.state l.inbox l.legs) (inbox_behind l.state l.inbox l.legs) l.last;
}
