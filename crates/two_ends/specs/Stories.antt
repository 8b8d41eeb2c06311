-- The story of an end that is driven: its lives, each of which begins on what a stop of the one before has left (this project's profile).
use Rattle.std.specs.Prelude.{◌≡◌, List, [], ◌++◌, length, Option, IfSome}
use Rattle.std.specs.List.{AllByRecursion}
use mathlib.Core.List.{IsPrefix}
use Rattle.session_model.specs.Journal.{Entry, OutboxRecord, entries, history_of, BeginsHistory, InOrder}
use Rattle.session_model.specs.Inbox.{InboxRecord}
use Rattle.session_model.specs.Lives.{Served, IsImage}
use Rattle.fixp_msgs.specs.Payload.{IsApplication}
use Rattle.fixp_msgs.specs.declared.flow.Flow.{Flow}
use Rattle.connection_laws.specs.Ranges.{IsInRange}
use Rattle.turn_laws.specs.Legs.{TurnedLeg, IsTimely}
use Rattle.turn_laws.specs.MachineLives.{life_in}
use Rattle.turn_laws.specs.LoopLives.{LoopLife, RefusedLeg, IsRefusedOn, machine_life, legs_in}
use Rattle.two_ends.specs.Driving.{Beginning, Awaits, WereMade, machine_behind, list_behind}

-- the life of the loop that began so, left its outbox with these records, and had these connections; and what it served
abbrev pub life_of : Beginning → List OutboxRecord → List TurnedLeg → Option RefusedLeg → LoopLife
life_of b closing done last = record {
  opening_outbox = b.outbox;
  closing_outbox = closing;
  refused_outbox = [];
  state = b.machine;
  inbox = b.inbox;
  legs = done;
  last = last;
}

abbrev pub served_by : LoopLife → Served
served_by life = (life_in (machine_life life)).served

-- A life that is over, with these connections, over an outbox with these records: they are turns, of bytes and in time; where something was
-- refused on the last one, it is still to be added. Its inbox came to this list, and a stop may leave a beginning of what was refused behind it
pub record IsOver (closing : List OutboxRecord) (b : Beginning) (legs : List TurnedLeg) (inbox refused : List InboxRecord) : Type 0 where
  pub done : List TurnedLeg
  pub last : Option RefusedLeg
  pub legs_are : legs_in (life_of b closing done last) ≡ legs
  pub made : WereMade (entries closing) b done
  pub waits : IfSome last (IsRefusedOn (entries closing) (machine_behind b done) (list_behind b done))
  pub timely : AllByRecursion IsTimely legs
  pub grows : IsPrefix b.inbox inbox
  pub inbox_is : (served_by (life_of b closing done last)).closing_inbox ≡ inbox
  pub refused_are : (served_by (life_of b closing done last)).refused_inbox ≡ refused

-- so a life of an end with these flows begins: its numbers are in range, it awaits what its inbox waits for, and has sent what its outbox has
pub record Began (own peer : Flow) (b : Beginning) : Type 0 where
  pub awaits : Awaits b
  pub sent : b.machine.facts.recorded.sent ≡ length (entries b.outbox)
  pub range : IsInRange b.machine
  pub own_flow : b.machine.config.own_flow ≡ own
  pub peer_flow : b.machine.config.peer_flow ≡ peer

-- a list of records goes on from another: it begins with that, and nothing stands behind a mark
pub record OutboxGoesOn (first second : List OutboxRecord) : Type 0 where
  pub begins : IsPrefix first second
  pub history : BeginsHistory (history_of first) (history_of second)

-- A life of an end with these flows that is over, and what stands behind it: its outbox, with what a stop left of a record that was refused, which has
-- entries in order with payloads of application messages; and what a stop left of its inbox
pub record LivedOn (own peer : Flow) (b : Beginning) (legs : List TurnedLeg) (outbox : List OutboxRecord) (inbox : List InboxRecord) : Type 0 where
  pub began : Began own peer b
  pub came_to : List InboxRecord
  pub refused : List InboxRecord
  pub over : IsOver outbox b legs came_to refused
  pub image : IsImage came_to refused inbox
  pub goes_on : OutboxGoesOn b.outbox outbox
  pub payloads : AllByRecursion (λ (e : Entry). IsApplication e.payload) (entries outbox)
  pub in_order : InOrder (entries outbox)

-- The story of an end with these flows, from empty journals on: all connections that it had over its lives, and the journals that they left
pub data Story (own peer : Flow) : List TurnedLeg → List OutboxRecord → List InboxRecord → Type 0 where
  untold : Story own peer [] [] []
  lived : {legs more : List TurnedLeg} {b : Beginning} {outbox : List OutboxRecord} {inbox : List InboxRecord}
      → Story own peer legs b.outbox b.inbox → LivedOn own peer b more outbox inbox → Story own peer (legs ++ more) outbox inbox
