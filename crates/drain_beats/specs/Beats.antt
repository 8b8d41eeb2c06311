-- That heartbeats never add up: over rounds of any kind no more is left to do than a drain finishes (this project's profile).
use Rattle.std.specs.Prelude.{⊤, ℕ, ◌+◌, ◌≤◌, List, [], ◌∷◌, length}
use Rattle.honest_ends.specs.Worlds.{World}
use Rattle.drain_laws.specs.Beginning.{bound}
use Rattle.drain_turns.specs.Joints.{Joint, Session, Shows}
use Rattle.drain_rounds.specs.Rounds.{Round, IsInTime, Begun, AreSent, IsOver, left_of, entries_of, rounds_for, last_of, AreDrain}

-- rounds in time, a millisecond one behind another
abbrev pub AreTimely : (s : Session) → (now : ℕ) → Joint → List Joint → Type 0
AreTimely s now j [] = ⊤
AreTimely s now j (k ∷ later) = ((r : Round s now j k) × (IsInTime now r.initiator × IsInTime now r.acceptor)) × AreTimely s (now + 1) k later

-- both ends are a world of the session, all that they wrote is sent, and what is left is within what a drain finishes
pub record IsWithin (s : Session) (j : Joint) : Type 0 where
  pub world : World
  pub shows : Shows s j world
  pub sent : AreSent j
  pub within : left_of s world ≤ bound (entries_of s) + 10

-- So it is behind any rounds with which they begin a connection. An end writes a heartbeat only once it wrote nothing for its interval, which is 100
-- milliseconds at least, as the configurations of a session have it
abbrev pub BeatsHold : Type 0
BeatsHold = (s : Session) (now : ℕ) (j k : Joint) (w : World) (later : List Joint) → Begun s j w → 100 ≤ j.acceptor.line.machine.config.keepalive → AreTimely s now j (k ∷ later)
    → IsWithin s (last_of k later)

-- and a drain behind them ends both connections
abbrev pub DrainFollows : Type 0
DrainFollows = (s : Session) (now : ℕ) (j k : Joint) (w : World) (later drain : List Joint) → Begun s j w → 100 ≤ j.acceptor.line.machine.config.keepalive → AreTimely s now j (k ∷ later)
    → AreDrain s (now + 1 + length later) (last_of k later) drain → rounds_for (entries_of s) ≤ length drain → IsOver (last_of (last_of k later) drain)
