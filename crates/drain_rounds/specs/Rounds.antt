-- Rounds of two ends over one link, as a rehearsal makes them, and how many of them finish what there is to do (this project's profile).
use Rattle.std.specs.Prelude.{◌≡◌, ⊤, ◌⊎◌, ℕ, ◌+◌, ◌*◌, ◌≤◌, true, List, [], ◌∷◌, ◌++◌, length, Option, Some, None, IsSome}
use Rattle.session_model.specs.Journal.{History, BeginsHistory}
use Rattle.fixp_shake.specs.Flows.{is_absent}
use Rattle.fixp_replies.specs.declared.act.Ending.{Ending}
use Rattle.fixp_replies.specs.Events.{lateness}
use Rattle.fixp_machine.specs.Machine.{around}
use Rattle.turn_laws.specs.Legs.{sent_in}
use Rattle.honest_ends.specs.Worlds.{World}
use Rattle.drain_laws.specs.Counts.{answered}
use Rattle.drain_laws.specs.Beginning.{bound}
use Rattle.drain_ends.specs.Acting.{IsWhole}
use Rattle.drain_turns.specs.Joints.{Half, Joint, Session, measure, Shows}
use Rattle.drain_turns.specs.Turning.{TakesTurn}

-- between two rounds an end may find more of its outbox than it had seen
pub record Finds (outbox : History) (old new : Half) : Type 0 where
  pub line : new.line ≡ old.line
  pub more : BeginsHistory old.seen new.seen
  pub seen : BeginsHistory new.seen outbox

-- an end in a round at this moment. Where its connection goes on it takes a turn, in which its link takes these bytes, and else none
pub record InRound (now : ℕ) (outbox : History) (old new : Half) (way left sent : List ℕ) : Type 0 where
  pub turns : old.line.machine.ending ≡ None → (t : TakesTurn now old new way left) × (sent_in t.turn ≡ sent) × BeginsHistory new.seen outbox
  pub rests : IsSome old.line.machine.ending → (new ≡ old) × (left ≡ way) × (sent ≡ [])

-- it is neither late nor behind silence in it
abbrev pub IsInTime : (now : ℕ) → Half → Type 0
IsInTime now half = half.line.machine.ending ≡ None
    → lateness (around half.line.machine 0 now) half.line.machine.facts half.line.machine.start half.line.machine.last_received ≡ None

-- a round: both look at their outboxes, the initiator takes a turn, and then the acceptor does, to which what the initiator sent is under way
pub record Round (s : Session) (now : ℕ) (old new : Joint) : Type 0 where
  pub initiator : Half
  pub acceptor : Half
  pub finds_i : Finds s.outbox_i old.initiator initiator
  pub finds_a : Finds s.outbox_a old.acceptor acceptor
  pub left : List ℕ
  pub sent_i : List ℕ
  pub sent_a : List ℕ
  pub turns_i : InRound now s.outbox_i initiator new.initiator old.homeward left sent_i
  pub turns_a : InRound now s.outbox_a acceptor new.acceptor (old.outward ++ sent_i) new.outward sent_a
  pub home : new.homeward ≡ left ++ sent_a

-- What both have seen in a round of a drain: the initiator its whole outbox and the mark behind it, and so the acceptor where the initiator's finish is answered, or
-- the initiator sends nothing
pub record Sees (s : Session) (old : Joint) (i a : Half) : Type 0 where
  pub initiator : IsWhole s.outbox_i.made i.seen
  pub acceptor : (answered old.acceptor.line.machine.facts ≡ 1) ⊎ (is_absent old.acceptor.line.machine.config.peer_flow ≡ true) → IsWhole s.outbox_a.made a.seen

-- a round of a drain: both are in time, and have seen that
pub record IsDrain (s : Session) (now : ℕ) (old new : Joint) (r : Round s now old new) : Type 0 where
  pub time_i : IsInTime now r.initiator
  pub time_a : IsInTime now r.acceptor
  pub sees : Sees s old r.initiator r.acceptor

-- rounds, a millisecond one behind another, and where they lead
abbrev pub AreDrain : (s : Session) → (now : ℕ) → Joint → List Joint → Type 0
AreDrain s now j [] = ⊤
AreDrain s now j (k ∷ later) = ((r : Round s now j k) × IsDrain s now j k r) × AreDrain s (now + 1) k later

abbrev pub last_of : Joint → List Joint → Joint
last_of j [] = j
last_of j (k ∷ later) = last_of k later

-- the connections of both have ended
pub record IsOver (j : Joint) : Type 0 where
  pub initiator : IsSome j.initiator.line.machine.ending
  pub acceptor : IsSome j.acceptor.line.machine.ending

-- at both ends a turn takes from 4 messages to 256, and all that was written is sent
pub record IsSent (half : Half) : Type 0 where
  pub least : 4 ≤ half.line.per_turn
  pub most : half.line.per_turn ≤ 256
  pub all : half.line.machine.unsent ≡ []

pub record AreSent (j : Joint) : Type 0 where
  pub initiator : IsSent j.initiator
  pub acceptor : IsSent j.acceptor

-- what is left to be done, and 4 for each connection that has not ended
abbrev pub open_of : Option Ending → ℕ
open_of None = 4
open_of (Some ending) = 0

abbrev pub left_of : Session → World → ℕ
left_of s w = measure s w + (open_of w.initiator.ending + open_of w.acceptor.ending)

-- behind a round of a drain, before which one of the two connections went on, 2 less is left at least
pub record RoundFell (s : Session) (k : Joint) (w : World) : Type 0 where
  pub world : World
  pub shows : Shows s k world
  pub sent : AreSent k
  pub falls : left_of s world + 2 ≤ left_of s w

abbrev pub RoundsFall : Type 0
RoundsFall = (s : Session) (now : ℕ) (j k : Joint) (w : World) → Shows s j w → AreSent j → (r : Round s now j k) → IsDrain s now j k r → (IsOver j → ⊥) → RoundFell s k w

-- so half as many rounds as that finish it
abbrev pub DrainEnds : Type 0
DrainEnds = (s : Session) (now : ℕ) (j : Joint) (w : World) (rounds : List Joint) → Shows s j w → AreSent j → AreDrain s now j rounds → left_of s w ≤ 2 * length rounds → IsOver (last_of j rounds)

-- both have begun a connection, on which nothing came yet, and the acceptor has nothing to send
pub record Begun (s : Session) (j : Joint) (w : World) : Type 0 where
  pub shows : Shows s j w
  pub first : shows.later ≡ []
  pub next_i : 1 ≤ s.start.initiator.facts.recorded.inbox_next
  pub next_a : 1 ≤ s.start.acceptor.facts.recorded.inbox_next
  pub goes : j.initiator.line.machine.ending ≡ None
  pub least : 4 ≤ j.initiator.line.per_turn
  pub most : j.initiator.line.per_turn ≤ 256
  pub acceptor : IsSent j.acceptor

-- how many rounds suffice, where the outboxes of both come to have so many entries together
abbrev pub rounds_for : ℕ → ℕ
rounds_for entries = 64 + 16 * entries

abbrev pub entries_of : Session → ℕ
entries_of s = length s.outbox_i.made + length s.outbox_a.made

-- They do where both begin a connection with the first of them; and where one stands on which what is left is within what there may be to do where none stands,
-- 4 for each of the two connections, and two heartbeats
pub record DrainSuffices : Type 0 where
  pub begins : (s : Session) (now : ℕ) (j : Joint) (w : World) (rounds : List Joint) → Begun s j w → AreDrain s now j rounds → rounds_for (entries_of s) ≤ length rounds
      → IsOver (last_of j rounds)
  pub stands : (s : Session) (now : ℕ) (j : Joint) (w : World) (rounds : List Joint) → Shows s j w → AreSent j → left_of s w ≤ bound (entries_of s) + 10 → AreDrain s now j rounds
      → rounds_for (entries_of s) ≤ length rounds → IsOver (last_of j rounds)
