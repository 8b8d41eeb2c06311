-- One life of an end over connections that are made turn by turn, as it has come to so far (this project's profile).
use Rattle.std.specs.Prelude.{◌≡◌, ℕ, ◌≤◌, List, [], ◌∷◌, ◌++◌, length, None}
use Rattle.std.specs.List.{AllByRecursion}
use Rattle.session_model.specs.Journal.{Entry, History, OutboxRecord}
use Rattle.session_model.specs.Inbox.{InboxRecord, next_number}
use Rattle.fixp_machine.specs.Machine.{State, connected}
use Rattle.conn_turns.specs.Lines.{Line}
use Rattle.conn_turns.specs.Turns.{Turn, IsFaithful}
use Rattle.connection_laws.specs.Courses.{inbox_of}
use Rattle.turn_laws.specs.Standing.{Has}
use Rattle.turn_laws.specs.Legs.{AreTurns, TurnedLeg, first_line, IsTimely, course_on}
use Rattle.turn_laws.specs.Lives.{AllAreTurns, state_after, inbox_after}

-- an end between two turns: its line, what its pass has seen of the outbox, and the list that its inbox holds
pub record EndNow : Type 0 where
  pub line : Line
  pub seen : History
  pub inbox : List InboxRecord

-- where a life of an end begins: with this machine, over journals with these records
pub record Beginning : Type 0 where
  pub machine : State
  pub outbox : List OutboxRecord
  pub inbox : List InboxRecord

-- its machine awaits the number for which the inbox waits
abbrev pub Awaits : Beginning → Type 0
Awaits b = b.machine.facts.recorded.inbox_next ≡ next_number b.inbox

-- the machine, and the list of the inbox, behind some connections of such a life
abbrev pub machine_behind : Beginning → List TurnedLeg → State
machine_behind b legs = state_after b.machine b.inbox legs

abbrev pub list_behind : Beginning → List TurnedLeg → List InboxRecord
list_behind b legs = inbox_after b.machine b.inbox legs

-- over an outbox with these entries, which are no fewer than its machine has sent, they are turns, of bytes and in time
pub record WereMade (h : List Entry) (b : Beginning) (legs : List TurnedLeg) : Type 0 where
  pub enough : b.machine.facts.recorded.sent ≤ length h
  pub turns : AllAreTurns h b.machine b.inbox legs
  pub timely : AllByRecursion IsTimely legs

-- a connection that begins at this moment, whose turns take so many frames at most, and one with one more turn
abbrev pub begun_leg : (per_turn : ℕ) → ℕ → TurnedLeg
begun_leg per_turn now = record { per_turn = per_turn; moment = now; turns = []; cut = None }

abbrev pub with_turn : TurnedLeg → Turn → TurnedLeg
with_turn t turn = record { per_turn = t.per_turn; moment = t.moment; turns = t.turns ++ turn ∷ []; cut = t.cut }

-- Connections of a life, one behind another, over an outbox with these entries: they are turns, and all over. A connection that begins now begins
-- as behind them, and the inbox holds what they add
pub record IsBetween (h : List Entry) (b : Beginning) (legs : List TurnedLeg) (e : EndNow) : Type 0 where
  pub made : WereMade h b legs
  pub next : (now : ℕ) → connected e.line.machine now ≡ connected (machine_behind b legs) now
  pub inbox : list_behind b legs ≡ e.inbox

-- behind those that are over one goes on, whose turns so far led to the line, and were of what the pass has seen, and sent just that
pub record IsDuring (h : List Entry) (b : Beginning) (past : List TurnedLeg) (leg : TurnedLeg) (e : EndNow) : Type 0 where
  pub behind : WereMade h b past
  pub before : History
  pub made : AreTurns before e.seen (first_line leg.per_turn (machine_behind b past) leg.moment) e.line leg.turns
  pub faithful : AllByRecursion IsFaithful leg.turns
  pub uncut : leg.cut ≡ None
  pub in_time : IsTimely leg
  pub inbox : inbox_of (course_on (machine_behind b past) (list_behind b past) leg) ≡ e.inbox

-- so it is over each outbox that begins with what was seen
abbrev pub Between : Beginning → List TurnedLeg → EndNow → Type 0
Between b legs e = (h : List Entry) → Has h e.seen → IsBetween h b legs e

abbrev pub During : Beginning → (past : List TurnedLeg) → TurnedLeg → EndNow → Type 0
During b past leg e = (h : List Entry) → Has h e.seen → IsDuring h b past leg e
