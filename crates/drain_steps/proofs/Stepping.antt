-- By how much the steps of one end lower what is still to be done, one behind another. The end is the one that a world calls its initiator; the other sees the world
-- turned.
use Rattle.std.proofs.Common.{◌≡◌, ℕ, ◌+◌, ◌≤◌, List, [], ◌∷◌, ◌++◌, length, refl, ap, subst, ◌∙◌, arith}
use Rattle.std.specs.Prelude.{⊤}
use Rattle.std.specs.List.{AllByRecursion}
use Rattle.session_model.specs.Journal.{Entry}
use Rattle.fixp_replies.specs.declared.facts.Facts.{Facts}
use Rattle.fixp_machine.specs.Machine.{State, Call, step, run}
use Rattle.connection_laws.specs.Writing.{Piece}
use Rattle.connection_laws.specs.Standing.{MayStand}
use Rattle.two_ends.specs.Reading.{incoming_of}
use Rattle.honest_ends.specs.Worlds.{World, Step, meets, initiator_reads, acceptor_reads, initiator_does, acceptor_does, initiator_read, after, world_after, IsOther, MayRead, MayStep, AllMayStep}
use Rattle.honest_ends.specs.Knowing.{StartsKnown}
use Rattle.honest_turns.specs.Steps.{does_all}
use Rattle.honest_turns.proofs.Reaching.{Reaches, and_then, turned, after_turned, reaches_turned}
use Rattle.drain_laws.specs.Loads.{load_at}
use Rattle.drain_laws.specs.Frames.{falls}
use Rattle.drain_laws.specs.Calls.{weights_out}
use Rattle.drain_ends.specs.Agreeing.{IsKnown}
use Rattle.drain_ends.specs.Falling.{measure, beat_of, call_lowers, HasSome, StepsFallAt}
use Rattle.drain_ends.proofs.Fallen.{steps_fall}
use Rattle.drain_steps.specs.Ranges.{InRange}
use Rattle.drain_steps.proofs.Ranging.{ranged_holds}

-- the first of these messages lowers it by so much, as it is read
abbrev pub read_lowers : Facts → List Piece → ℕ
read_lowers f [] = 0
read_lowers f (p ∷ left) = falls f (incoming_of p)

-- a step, and by how much its tick raises it
abbrev pub lowers : World → Step → ℕ
lowers w (meets now_i now_a) = 0
lowers w (initiator_reads at now) = read_lowers w.initiator.facts w.homeward
lowers w (acceptor_reads at now) = 0
lowers w (initiator_does call) = call_lowers w.initiator call
lowers w (acceptor_does call) = 0

abbrev pub raises : World → Step → ℕ
raises w (meets now_i now_a) = 0
raises w (initiator_reads at now) = 0
raises w (acceptor_reads at now) = 0
raises w (initiator_does call) = beat_of w.initiator call
raises w (acceptor_does call) = 0

-- steps, one behind another
abbrev pub low : World → List Step → ℕ
low w [] = 0
low w (s ∷ later) = lowers w s + low (after w s) later

abbrev pub high : World → List Step → ℕ
high w [] = 0
high w (s ∷ later) = raises w s + high (after w s) later

-- and calls
abbrev pub call_low : State → List Call → ℕ
call_low s [] = 0
call_low s (call ∷ later) = call_lowers s call + call_low (step s call) later

abbrev pub call_high : State → List Call → ℕ
call_high s [] = 0
call_high s (call ∷ later) = beat_of s call + call_high (step s call) later

-- a step of that end alone
abbrev pub IsOwn : Step → Type 0
IsOwn (meets now_i now_a) = ⊥
IsOwn (initiator_reads at now) = ⊤
IsOwn (acceptor_reads at now) = ⊥
IsOwn (initiator_does call) = HasSome call
IsOwn (acceptor_does call) = ⊥

-- in a world its message lowers the measure as it is read, and its calls do, as they may; and what it serves are messages that it sent
pub record Falling (hi ha : List Entry) (w : World) : Type 0 where
  pub reads : (p : Piece) (left : List Piece) (at now : ℕ) → w.homeward ≡ p ∷ left → MayRead w.initiator
      → measure hi ha (after w (initiator_reads at now)) + falls w.initiator.facts (incoming_of p) ≤ measure hi ha w
  pub does : (call : Call) → HasSome call → IsOther hi call × MayStand hi w.initiator call
      → measure hi ha (after w (initiator_does call)) + call_lowers w.initiator call ≤ measure hi ha w + beat_of w.initiator call
  pub range : InRange w.initiator.facts

-- and in each to which steps lead from here
abbrev pub FallsFrom : List Entry → List Entry → World → Type 0
FallsFrom hi ha w = (steps : List Step) → AllMayStep hi ha w steps → Falling hi ha (world_after w steps)

step_falls : (hi ha : List Entry) (w : World) (s : Step) → Falling hi ha w → MayStep hi ha w s → IsOwn s → measure hi ha (after w s) + lowers w s ≤ measure hi ha w + raises w s
step_falls hi ha w (meets now_i now_a) f may own = absurd own
step_falls hi ha w (acceptor_reads at now) f may own = absurd own
step_falls hi ha w (acceptor_does call) f may own = absurd own
step_falls hi ha w (initiator_does call) f may own = f.does call own may
step_falls hi ha w (initiator_reads at now) f may own = by_way w.homeward refl
  where
    no_more : (a b c : ℕ) → b ≡ a → c ≡ 0 → b + c ≤ a + 0
    no_more a b c e z = omega arith

    some : (a b c k : ℕ) → b + k ≤ a → c ≡ k → b + c ≤ a + 0
    some a b c k h e = omega arith

    by_way : (way : List Piece) → w.homeward ≡ way → measure hi ha (after w (initiator_reads at now)) + read_lowers w.initiator.facts w.homeward ≤ measure hi ha w + 0
    by_way [] e = no_more (measure hi ha w) (measure hi ha (after w (initiator_reads at now))) (read_lowers w.initiator.facts w.homeward)
        (ap (λ (ps : List Piece). measure hi ha (initiator_read w ps at now)) e) (ap (λ (ps : List Piece). read_lowers w.initiator.facts ps) e)
    by_way (p ∷ left) e = some (measure hi ha w) (measure hi ha (after w (initiator_reads at now))) (read_lowers w.initiator.facts w.homeward) (falls w.initiator.facts (incoming_of p))
        (f.reads p left at now e may) (ap (λ (ps : List Piece). read_lowers w.initiator.facts ps) e)

pub steps_fall_along : (hi ha : List Entry) (w : World) (steps : List Step) → FallsFrom hi ha w → AllMayStep hi ha w steps → AllByRecursion IsOwn steps
    → measure hi ha (world_after w steps) + low w steps ≤ measure hi ha w + high w steps
steps_fall_along hi ha w [] f may own = same (measure hi ha w)
  where
    same : (a : ℕ) → a + 0 ≤ a + 0
    same a = omega arith
steps_fall_along hi ha w (s ∷ later) f may own =
    both (measure hi ha w) (measure hi ha (after w s)) (measure hi ha (world_after (after w s) later)) (lowers w s) (low (after w s) later) (raises w s) (high (after w s) later)
    (step_falls hi ha w s (f [] tt) may.0 own.0) (steps_fall_along hi ha (after w s) later (λ steps more. f (s ∷ steps) (may.0, more)) may.1 own.1)
  where
    both : (a b c l k r q : ℕ) → b + l ≤ a + r → c + k ≤ b + q → c + (l + k) ≤ a + (r + q)
    both a b c l k r q g h = omega arith

none_first : (a : ℕ) → a ≡ 0 + a
none_first a = omega arith

pub low_append : (w : World) (first later : List Step) → low w (first ++ later) ≡ low w first + low (world_after w first) later
low_append w [] later = none_first (low w later)
low_append w (s ∷ first) later = let e = low_append (after w s) first later in by_numbers (lowers w s) (low (after w s) (first ++ later)) (low (after w s) first) (low (world_after (after w s) first) later) e
  where
    by_numbers : (a b c d : ℕ) → b ≡ c + d → a + b ≡ (a + c) + d
    by_numbers a b c d e = omega arith

pub high_append : (w : World) (first later : List Step) → high w (first ++ later) ≡ high w first + high (world_after w first) later
high_append w [] later = none_first (high w later)
high_append w (s ∷ first) later = let e = high_append (after w s) first later in by_numbers (raises w s) (high (after w s) (first ++ later)) (high (after w s) first) (high (world_after (after w s) first) later) e
  where
    by_numbers : (a b c d : ℕ) → b ≡ c + d → a + b ≡ (a + c) + d
    by_numbers a b c d e = omega arith

pub world_append : (w : World) (first later : List Step) → world_after w (first ++ later) ≡ world_after (world_after w first) later
world_append w [] later = refl
world_append w (s ∷ first) later = world_append (after w s) first later

-- calls alone
pub does_low : (w : World) (calls : List Call) → low w (does_all calls) ≡ call_low w.initiator calls
does_low w [] = refl
does_low w (call ∷ later) = ap (λ (n : ℕ). call_lowers w.initiator call + n) (does_low (after w (initiator_does call)) later)

pub does_high : (w : World) (calls : List Call) → high w (does_all calls) ≡ call_high w.initiator calls
does_high w [] = refl
does_high w (call ∷ later) = ap (λ (n : ℕ). beat_of w.initiator call + n) (does_high (after w (initiator_does call)) later)

pub does_end : (w : World) (calls : List Call) → (world_after w (does_all calls)).initiator ≡ run w.initiator calls
does_end w [] = refl
does_end w (call ∷ later) = does_end (after w (initiator_does call)) later

pub does_home : (w : World) (calls : List Call) → (world_after w (does_all calls)).homeward ≡ w.homeward
does_home w [] = refl
does_home w (call ∷ later) = does_home (after w (initiator_does call)) later

-- from the beginning of two ends that knew no more of each other than was sent: so at the initiator
pub from_initiator : (hi ha : List Entry) (start w : World) → StartsKnown hi ha start → IsKnown start → Reaches hi ha start w → FallsFrom hi ha w
from_initiator hi ha start w known agreed r steps may = record {
  reads = λ p left at now e here. at_w.at_initiator p left at now e here;
  does = λ call some here. at_w.by_initiator call some here;
  range = subst (λ (v : World). InRange v.initiator.facts) all.there (ranged_holds hi ha start all.steps known all.may).initiator;
}
  where
    all : Reaches hi ha start (world_after w steps)
    all = and_then hi ha start w (world_after w steps) r (record { steps = steps; may = may; there = refl })

    at_w : StepsFallAt hi ha (world_after w steps)
    at_w = subst (λ (v : World). StepsFallAt hi ha v) all.there (steps_fall hi ha start all.steps known agreed all.may)

-- the measure of a world seen from the other end
pub measure_turned : (hi ha : List Entry) (w : World) → measure hi ha (turned w) ≡ measure ha hi w
measure_turned hi ha w = by_numbers (load_at (length hi) (length ha) w.acceptor) (load_at (length ha) (length hi) w.initiator) (weights_out w.acceptor.config w.homeward) (weights_out w.initiator.config w.outward)
  where
    by_numbers : (a b c d : ℕ) → (a + b) + (c + d) ≡ (b + a) + (d + c)
    by_numbers a b c d = omega arith

-- and at the acceptor, in the world as it sees it
pub from_acceptor : (hi ha : List Entry) (start w : World) → StartsKnown hi ha start → IsKnown start → Reaches hi ha start w → FallsFrom ha hi (turned w)
from_acceptor hi ha start w known agreed r steps may = record {
  reads = λ p left at now e here.
      less (measure ha hi (after v (initiator_reads at now))) (measure hi ha (after (turned v) (acceptor_reads at now))) (measure ha hi v) (measure hi ha (turned v)) (falls v.initiator.facts (incoming_of p))
      (at_v.at_acceptor p left at now e here) (ap (λ (u : World). measure hi ha u) (after_turned v (initiator_reads at now)) ∙ measure_turned hi ha (after v (initiator_reads at now))) (measure_turned hi ha v);
  does = λ call some here.
      within (measure ha hi (after v (initiator_does call))) (measure hi ha (after (turned v) (acceptor_does call))) (measure ha hi v) (measure hi ha (turned v)) (call_lowers v.initiator call) (beat_of v.initiator call)
      (at_v.by_acceptor call some here) (ap (λ (u : World). measure hi ha u) (after_turned v (initiator_does call)) ∙ measure_turned hi ha (after v (initiator_does call))) (measure_turned hi ha v);
  range = subst (λ (u : World). InRange u.acceptor.facts) all.there (ranged_holds hi ha start all.steps known all.may).acceptor;
}
  where
    v : World
    v = world_after (turned w) steps

    all : Reaches hi ha start (turned v)
    all = and_then hi ha start w (turned v) r (reaches_turned ha hi (turned w) v (record { steps = steps; may = may; there = refl }))

    at_v : StepsFallAt hi ha (turned v)
    at_v = subst (λ (u : World). StepsFallAt hi ha u) all.there (steps_fall hi ha start all.steps known agreed all.may)

    less : (a b c d k : ℕ) → b + k ≤ d → b ≡ a → d ≡ c → a + k ≤ c
    less a b c d k h e f = omega arith

    within : (a b c d k q : ℕ) → b + k ≤ d + q → b ≡ a → d ≡ c → a + k ≤ c + q
    within a b c d k q h e f = omega arith
