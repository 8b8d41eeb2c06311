-- One end's side of a connection, what two ends of one session know of each other, and when they are at rest.
use Rattle.std.specs.Prelude.{◌≡◌, ◌⊎◌, ◌+◌, true, List, [], length}
use Rattle.session_model.specs.Journal.{Entry, History, BeginsHistory}
use Rattle.session_model.specs.Inbox.{InboxRecord, next_number}
use Rattle.fixp_shake.specs.Flows.{is_sequenced}
use Rattle.fixp_replies.specs.Facts.{finishes_exchanged}
use Rattle.fixp_machine.specs.Machine.{State, around}
use Rattle.conn_turns.specs.Lines.{Line}
use Rattle.connection_laws.specs.Courses.{inbox_of}
use Rattle.connection_laws.specs.Ranges.{IsInRange, IsOutbox}
use Rattle.turn_laws.specs.Legs.{TurnedLeg, AreTurnsOf, IsTimely, given_on, sent_on, course_on}
use Rattle.honest_ends.specs.Worlds.{Match}
use Rattle.honest_ends.specs.Knowing.{Knows}
use Rattle.honest_ends.specs.Resting.{IsIdle, EndsLast}

-- a connection of an end: what its outbox comes to have, the machine and the inbox at its beginning, and its turns
pub record Side : Type 0 where
  pub outbox : History
  pub state : State
  pub inbox : List InboxRecord
  pub leg : TurnedLeg

-- the machine and the inbox behind its turns
abbrev pub behind : Side → State
behind s = (course_on s.state s.inbox s.leg).state

abbrev pub inbox_behind : Side → List InboxRecord
inbox_behind s = inbox_of (course_on s.state s.inbox s.leg)

-- an end between two connections: it awaits the inbox's next number, its numbers are in range, and its outbox comes to have payloads of
-- application messages
pub record IsReady (outbox : History) (s : State) (inbox : List InboxRecord) : Type 0 where
  pub awaits : s.facts.recorded.inbox_next ≡ next_number inbox
  pub range : IsInRange s
  pub entries : IsOutbox outbox.made

-- the turns of a connection, of bytes and in time; what they saw of the outbox begins what that comes to have. The last one may have been cut
-- short, as by a journal that failed
pub record MakesTurns (s : Side) : Type 0 where
  pub ready : IsReady s.outbox s.state s.inbox
  pub turns : AreTurnsOf s.outbox.made s.state s.leg
  pub seen : BeginsHistory turns.after s.outbox
  pub timely : IsTimely s.leg

-- What two ends of one session know of each other, where their outboxes come to have these entries: their configurations match, the
-- journals of each know no more of the other than was sent, and a finish that one has recorded comes behind all of its flow
pub record Agree (hi ha : List Entry) (i a : State) : Type 0 where
  pub matches : Match i.config a.config
  pub outward : Knows hi i a
  pub homeward : Knows ha a i
  pub last_i : EndsLast i
  pub last_a : EndsLast a

-- behind two connections over one link, with these lines: all that one end wrote was sent, and was given to the other, which took it
pub record NothingLeft (writer reader : TurnedLeg) (writer_line reader_line : Line) : Type 0 where
  pub sent : writer_line.machine.unsent ≡ []
  pub given : given_on reader ≡ sent_on writer
  pub taken : reader_line.held ≡ []

-- they are quiet: both connections are open and established, each end sent its whole outbox and asks for nothing, and nothing is under way
pub record AreQuiet (i a : Side) (line_i line_a : Line) : Type 0 where
  pub initiator : IsIdle i.outbox.made line_i.machine
  pub acceptor : IsIdle a.outbox.made line_a.machine
  pub outward : NothingLeft i.leg a.leg line_i line_a
  pub homeward : NothingLeft a.leg i.leg line_a line_i

-- or both finishes are exchanged at both ends
pub record AreOver (line_i line_a : Line) : Type 0 where
  pub initiator : finishes_exchanged (around line_i.machine 0 0) line_i.machine.facts ≡ true
  pub acceptor : finishes_exchanged (around line_a.machine 0 0) line_a.machine.facts ≡ true

abbrev pub AreAtRest : (i a : Side) (line_i line_a : Line) → Type 0
AreAtRest i a line_i line_a = AreQuiet i a line_i line_a ⊎ AreOver line_i line_a

-- the inbox of a flow with numbers awaits one past all of these entries
abbrev pub HasWhole : List Entry → Side → Type 0
HasWhole h s = is_sequenced s.state.config.peer_flow ≡ true → next_number (inbox_behind s) ≡ length h + 1
