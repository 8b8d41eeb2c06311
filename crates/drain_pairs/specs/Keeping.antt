-- What each move of a rehearsal makes of two ends: a connection that begins, a round and the millisecond behind it, more that is submitted, the loss of a connection, and
-- a stop of an end; and where a drain leads (this project's profile).
use Rattle.std.specs.Prelude.{◌≡◌, ℕ, ◌+◌, ◌≤◌, List, [], ◌∷◌, length}
use Rattle.session_model.specs.Journal.{History, BeginsHistory}
use Rattle.fixp_machine.specs.Machine.{State, taken, link_end, run}
use Rattle.connection_laws.specs.Ranges.{IsInTime}
use Rattle.honest_turns.specs.Sessions.{Reopens}
use Rattle.drain_turns.specs.Joints.{Half, Joint}
use Rattle.drain_rounds.specs.Rounds.{Finds, Round, Sees, IsOver, rounds_for}
use Rattle.drain_rounds.specs.Starting.{anew}
use Rattle.drain_finish.specs.Finishing.{GoesOrFinished}
use Rattle.drain_time.specs.Times.{AreFinished}
use Rattle.drain_pairs.specs.Pairs.{end_of, MayBegin, Apart, both_begun, SeesMore, Joined, session_on}

-- over a new link both begin
abbrev pub BeginsJoined : Type 0
BeginsJoined = (outbox_i outbox_a : History) (now : ℕ) (i a : Half) → Apart outbox_i outbox_a i a → IsInTime now → Joined outbox_i outbox_a 0 now (both_begun i a now)

-- a round of both, and a millisecond; and one in which both have seen what they have in a drain
pub record RoundsJoin : Type 0 where
  pub any : (outbox_i outbox_a : History) (drained now : ℕ) (j k : Joint) (x : Joined outbox_i outbox_a drained now j) → Round (session_on outbox_i outbox_a drained now j x) now j k
      → Joined outbox_i outbox_a 0 (now + 1) k
  pub drains : (outbox_i outbox_a : History) (drained now : ℕ) (j k : Joint) (x : Joined outbox_i outbox_a drained now j)
      → (r : Round (session_on outbox_i outbox_a drained now j x) now j k) → Sees (session_on outbox_i outbox_a drained now j x) j r.initiator r.acceptor
      → Joined outbox_i outbox_a (drained + 1) (now + 1) k

-- those who send, and those who answer, add to an outbox of which the pass sees more
pub record MoreIsSeen : Type 0 where
  pub joined : (outbox_i outbox_a : History) (drained now : ℕ) (j k : Joint) → Joined outbox_i outbox_a drained now j → SeesMore outbox_i outbox_a j k → Joined outbox_i outbox_a drained now k
  pub apart : (outbox_i outbox_a : History) (i a j b : Half) → Apart outbox_i outbox_a i a → Finds outbox_i i j → Finds outbox_a a b → Apart outbox_i outbox_a j b

-- what an end has recorded, and its configuration, are as they were, and its turns; its pass has seen no less
pub record Leaves (outbox : History) (old new : Half) : Type 0 where
  pub per_turn : new.line.per_turn ≡ old.line.per_turn
  pub anew_is : anew new.line.machine ≡ anew old.line.machine
  pub more : BeginsHistory old.seen new.seen
  pub seen : BeginsHistory new.seen outbox

-- so the loss of a connection leaves both, where it is over, and where it is cut: what is unsent is dropped, and the link ends
pub record LossLeavesApart : Type 0 where
  pub cut : (s : State) → anew (run s (taken (length s.unsent) ∷ link_end ∷ [])) ≡ anew s
  pub apart : (outbox_i outbox_a : History) (drained now : ℕ) (j : Joint) (i a : Half) → Joined outbox_i outbox_a drained now j → Leaves outbox_i j.initiator i → Leaves outbox_a j.acceptor a
      → Apart outbox_i outbox_a i a

-- an end goes on in a next life, of the same negotiation, from what it has recorded
pub record StopLeavesApart : Type 0 where
  pub initiator : (outbox_i outbox_a : History) (i a j : Half) (x : Apart outbox_i outbox_a i a) → Reopens (end_of outbox_i x.inbox_i i) (end_of outbox_i x.inbox_i j)
      → j.line.machine.facts.recorded.negotiated ≡ i.line.machine.facts.recorded.negotiated → MayBegin outbox_i j → Apart outbox_i outbox_a j a
  pub acceptor : (outbox_i outbox_a : History) (i a b : Half) (x : Apart outbox_i outbox_a i a) → Reopens (end_of outbox_a x.inbox_a a) (end_of outbox_a x.inbox_a b)
      → b.line.machine.facts.recorded.negotiated ≡ a.line.machine.facts.recorded.negotiated → MayBegin outbox_a b → Apart outbox_i outbox_a i b

-- On a connection each end goes on, or has ended as finished; and 64 rounds of a drain, and 16 for each entry of both outboxes, end both as finished
pub record DrainFinishesBoth : Type 0 where
  pub each : (outbox_i outbox_a : History) (drained now : ℕ) (j : Joint) → Joined outbox_i outbox_a drained now j
      → GoesOrFinished j.initiator.line.machine × GoesOrFinished j.acceptor.line.machine
  pub over : (outbox_i outbox_a : History) (drained now : ℕ) (j : Joint) → Joined outbox_i outbox_a drained now j → rounds_for (length outbox_i.made + length outbox_a.made) ≤ drained
      → IsOver j × AreFinished j
