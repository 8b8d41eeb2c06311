-- Each call of a turn may come where it came, in the words of the laws over connections.
use Rattle.std.specs.Prelude.{◌≡◌, ℕ, ◌^◌, ◌<◌, List, [], ◌∷◌, ◌++◌, length, Option, Some, None}
use mathlib.Core.List.{IsPrefix}
use Rattle.session_model.specs.Journal.{Entry, History}
use Rattle.session_model.specs.Inbox.{InboxRecord, Numbered}
use Rattle.fixp_machine.specs.Machine.{front_of, IsDrained}
use Rattle.fixp_machine.specs.Accepting.{records_of}
use Rattle.conn_turns.specs.Lines.{Line, TakenFrame}
use Rattle.conn_turns.specs.Turns.{Turn, Refusal, IsFaithful, cut_short, calls_of}
use Rattle.connection_laws.specs.Courses.{Waiting, Course, reply_to, course_after}
use Rattle.connection_laws.specs.Standing.{Stands, AllMayStand}
use Rattle.turn_laws.specs.Turns.{line_received, IsTurn, IsCutShort, IsCut, adds_in, adds_cut}

-- a connection stands where the line of a turn is, with no act to be done, nor a held message to be applied
pub record StandsAt (h : List Entry) (c : Course) (l : Line) : Type 0 where
  pub stands : Stands h c
  pub machine : c.state ≡ l.machine
  pub done : l.machine.pending ≡ None
  pub drained : IsDrained l.machine

-- the outbox has these entries, of which there are less than 2^40, and begins with those that were seen
pub record Has (h : List Entry) (seen : History) : Type 0 where
  pub begins : IsPrefix seen.made h
  pub few : length h < 2 ^ 40

-- each call of a whole turn that sent of the outbox what it had seen may come where it came, and the connection stands again where the
-- turn left the line
pub record TurnStands (h : List Entry) (c : Course) (new : Line) (t : Turn) : Type 0 where
  pub may : AllMayStand h c (calls_of t)
  pub after : StandsAt h (course_after c (calls_of t)) new

abbrev pub TurnMayStand : Type 0
TurnMayStand = (h : List Entry) (before after : History) (old new : Line) (t : Turn) (c : Course)
    → StandsAt h c old → Has h after → IsTurn before after old new t → IsFaithful t → TurnStands h c new t

-- each call of a turn that was cut short may come where it came
abbrev pub CutMayStand : Type 0
CutMayStand = (h : List Entry) (old : Line) (t : Turn) (c : Course) → StandsAt h c old → IsCut old t → AllMayStand h c (calls_of t)

-- what the connection adds to the inbox over a whole turn is what its frames add
abbrev pub TurnAdds : Type 0
TurnAdds = (h : List Entry) (before after : History) (old new : Line) (t : Turn) (c : Course)
    → StandsAt h c old → IsTurn before after old new t → (course_after c (calls_of t)).added ≡ c.added ++ adds_in old t

-- what a connection adds to the inbox over a turn that was cut short is what its frames add, and what stood before the refusal
abbrev pub CutAdds : Type 0
CutAdds = (h : List Entry) (old : Line) (now : ℕ) (received : List ℕ) (frames : List TakenFrame) (refusal : Option Refusal) (c : Course)
    → StandsAt h c old → (k : IsCutShort now received frames refusal old)
    → (course_after c (calls_of (cut_short now received frames refusal))).added
    ≡ c.added ++ adds_cut now (line_received old now received k.got) frames refusal

-- these records were refused: those of the act for which a frame waits, or that of the held message that the inbox awaits
pub data Waits (d : Course) (left : List InboxRecord) : Type 0 where
  for_act : (w : Waiting) → d.waiting ≡ Some w → records_of (reply_to d.state w).act w.incoming ≡ left → Waits d left
  for_held : (m : Numbered) → front_of d.state ≡ Some m → InboxRecord.apply m ∷ [] ≡ left → Waits d left
