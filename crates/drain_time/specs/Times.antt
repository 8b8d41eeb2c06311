-- That two ends of one session stay in time on a connection, as a rehearsal makes it, and that a drain finishes it (this project's profile).
use Rattle.std.specs.Prelude.{◌≡◌, ⊤, ℕ, ◌+◌, ◌≤◌, false, List, [], ◌∷◌, length, Some}
use Rattle.fixp_shake.specs.Flows.{is_absent}
use Rattle.fixp_replies.specs.declared.act.Ending.TheVariants as endings
use Rattle.honest_ends.specs.Worlds.{World}
use Rattle.drain_turns.specs.Joints.{Joint, Session}
use Rattle.drain_rounds.specs.Rounds.{Round, Sees, Begun, IsOver, last_of, entries_of, rounds_for}
use Rattle.drain_beats.specs.Beats.{AreTimely, IsWithin}
use Rattle.drain_finish.specs.Finishing.{GoesOrFinished}

-- rounds, a millisecond one behind another
abbrev pub AreRounds : (s : Session) → (now : ℕ) → Joint → List Joint → Type 0
AreRounds s now j [] = ⊤
AreRounds s now j (k ∷ later) = Round s now j k × AreRounds s (now + 1) k later

-- both begin a connection at this moment, and the acceptor's interval is in its range, as the initiator's is
pub record BeginsAt (s : Session) (now : ℕ) (j : Joint) (w : World) : Type 0 where
  pub begun : Begun s j w
  pub moment_i : begun.shows.now_i ≡ now
  pub moment_a : begun.shows.now_a ≡ now
  pub least : 100 ≤ j.acceptor.line.machine.config.keepalive
  pub most : j.acceptor.line.machine.config.keepalive ≤ 60000

-- then in each round both are in time: neither is late with its handshake, nor behind silence
abbrev pub StaysInTime : Type 0
StaysInTime = (s : Session) (now : ℕ) (j : Joint) (w : World) (rounds : List Joint) → BeginsAt s now j w → AreRounds s now j rounds → AreTimely s now j rounds

-- rounds in which both have seen what they have in a drain
abbrev pub AreSeen : (s : Session) → (now : ℕ) → Joint → List Joint → Type 0
AreSeen s now j [] = ⊤
AreSeen s now j (k ∷ later) = ((r : Round s now j k) × Sees s j r.initiator r.acceptor) × AreSeen s (now + 1) k later

-- So behind any rounds with which they begin a connection no more is left than 29 for each entry of both outboxes, 77, 4 for each of the two connections and two
-- heartbeats; and 64 rounds, and 16 for each entry, in which both see that, end both
pub record DrainFinishes : Type 0 where
  pub within : (s : Session) (now : ℕ) (j k : Joint) (w : World) (later : List Joint) → BeginsAt s now j w → AreRounds s now j (k ∷ later) → IsWithin s (last_of k later)
  pub ends : (s : Session) (now : ℕ) (j k : Joint) (w : World) (later drain : List Joint) → BeginsAt s now j w → AreRounds s now j (k ∷ later)
      → AreSeen s (now + 1 + length later) (last_of k later) drain → rounds_for (entries_of s) ≤ length drain → IsOver (last_of (last_of k later) drain)
  pub begins : (s : Session) (now : ℕ) (j : Joint) (w : World) (drain : List Joint) → BeginsAt s now j w → AreSeen s now j drain → rounds_for (entries_of s) ≤ length drain
      → IsOver (last_of j drain)

-- both connections have ended as finished
pub record AreFinished (j : Joint) : Type 0 where
  pub initiator : j.initiator.line.machine.ending ≡ Some endings.Finished
  pub acceptor : j.acceptor.line.machine.ending ≡ Some endings.Finished

-- Behind any rounds with which they begin a connection, where the initiator sends, each of the two goes on or has ended as finished; so where both have ended, both have so
pub record RoundsFinish : Type 0 where
  pub each : (s : Session) (now : ℕ) (j : Joint) (w : World) (rounds : List Joint) → BeginsAt s now j w → is_absent s.start.initiator.config.own_flow ≡ false → AreRounds s now j rounds
      → GoesOrFinished (last_of j rounds).initiator.line.machine × GoesOrFinished (last_of j rounds).acceptor.line.machine
  pub both : (s : Session) (now : ℕ) (j : Joint) (w : World) (rounds : List Joint) → BeginsAt s now j w → is_absent s.start.initiator.config.own_flow ≡ false → AreRounds s now j rounds
      → IsOver (last_of j rounds) → AreFinished (last_of j rounds)
