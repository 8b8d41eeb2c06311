-- What is held stays within reach, and what a gap is then.
use Rattle.std.proofs.Common.{◌≡◌, ℕ, ◌+◌, ◌-◌, ◌<◌, ◌≤◌, ◌==◌, nat_lt, nat_le, Bool, true, false, if◌then◌else◌, List, [], ◌∷◌, length, IsSome, Some, None, refl, sym, subst, arith, eqb-true, ne_eqb, lt-ltb, leb-true}
use Rattle.std.proofs.lemmas.Bool.{eqb-false, ltb-true, ltb-false, false≢true}
use Rattle.std.proofs.lemmas.Option.{none-some}
use Rattle.std.specs.List.{AllByRecursion}
use Rattle.session_model.specs.Inbox.{Numbered, numbers_of, Ascending}
use Rattle.session_model.proofs.Lists.{all_weaker}
use Rattle.fixp_msgs.specs.declared.numbering.Range.{Range}
use Rattle.flow_recover.specs.declared.numbers.Seen.TheVariants.{Deliver, Hold, Gap, Repeat}
use Rattle.flow_window.specs.Window.{holding, front, InReach}
use Rattle.flow_recover.specs.Receiving.{reach, seen_as, gap}
use Rattle.flow_window.specs.Gathering.{held_as, ready, waiting}
use Rattle.flow_window.specs.Laws.{met, StaysInReach, GapIsMissing}
use Rattle.flow_window.proofs.Reach.{all_holding}
use Rattle.flow_window.proofs.Taken.{front_by_front}

-- one more message within reach
rising_holding : (low k : ℕ) (p : List ℕ) (ms : List Numbered) → low ≤ k → Ascending low (numbers_of ms) → Ascending low (numbers_of (holding k p ms))
rising_holding low k p [] h rising = (h, tt)
rising_holding low k p (m ∷ ms) h rising =
    by_tests (m.number == k) refl (nat_lt k m.number) refl (λ past. rising_holding (m.number + 1) k p ms past rising.1)
  where
    by_tests : (same : Bool) → (m.number == k) ≡ same → (below : Bool) → nat_lt k m.number ≡ below
        → (m.number + 1 ≤ k → Ascending (m.number + 1) (numbers_of (holding k p ms)))
        → Ascending low (numbers_of (if same then m ∷ ms else if below then record { number = k; payload = p } ∷ m ∷ ms else m ∷ holding k p ms))
    by_tests true same below under later = rising
    by_tests false same true under later = (h, (omega (arith, ltb-true k m.number under), rising.1))
    by_tests false same false under later =
        (rising.0, later (omega (arith, ltb-false k m.number under, eqb-false m.number k same)))

pub holding_in_reach : (next k : ℕ) (p : List ℕ) (ms : List Numbered) → next ≤ k → k ≤ next + reach → InReach next ms → InReach next (holding k p ms)
holding_in_reach next k p ms above near all = record {
  rising = rising_holding next k p ms above all.rising;
  near = all_holding (λ n. n ≤ next + reach) k p ms near all.near;
}

-- the next number was applied, and was not held
rising_past : (n : ℕ) (ms : List Numbered) → Ascending n (numbers_of ms) → front n ms ≡ None → Ascending (n + 1) (numbers_of ms)
rising_past n [] rising none = tt
rising_past n (m ∷ ms) rising none = by_test (m.number == n) refl none
  where
    by_test : (b : Bool) → (m.number == n) ≡ b → (if b then Some m else None) ≡ None → Ascending (n + 1) (numbers_of (m ∷ ms))
    by_test true same none = absurd (none-some m (sym none))
    by_test false same none = (omega (arith, rising.0, eqb-false m.number n same), rising.1)

near_farther : (n k : ℕ) (ms : List Numbered) → n ≤ k → AllByRecursion (λ x. x ≤ n + reach) (numbers_of ms) → AllByRecursion (λ x. x ≤ k + reach) (numbers_of ms)
near_farther n k ms h near = all_weaker (λ x. x ≤ n + reach) (λ x. x ≤ k + reach) (λ x below. omega (arith, h, below)) (numbers_of ms) near

pub past_in_reach : (n : ℕ) (ms : List Numbered) → InReach n ms → front n ms ≡ None → InReach (n + 1) ms
past_in_reach n ms all none = record {
  rising = rising_past n ms all.rising none;
  near = near_farther n (n + 1) ms (omega arith) all.near;
}

-- all that is ready was applied
rising_waiting : (n : ℕ) (ms : List Numbered) → Ascending n (numbers_of ms) → Ascending (n + length (ready n ms)) (numbers_of (waiting n ms))
rising_waiting n [] rising = tt
rising_waiting n (m ∷ ms) rising = by_test (m.number == n) refl (λ same. rising_waiting (n + 1) ms (subst (λ k. Ascending (k + 1) (numbers_of ms)) same rising.1))
  where
    by_test : (b : Bool) → (m.number == n) ≡ b → (m.number ≡ n → Ascending (n + 1 + length (ready (n + 1) ms)) (numbers_of (waiting (n + 1) ms)))
        → Ascending (n + length (if b then m ∷ ready (n + 1) ms else [])) (numbers_of (if b then waiting (n + 1) ms else m ∷ ms))
    by_test true same later =
        let far : n + 1 + length (ready (n + 1) ms) ≡ n + length (m ∷ ready (n + 1) ms) = omega arith in
        subst (λ k. Ascending k (numbers_of (waiting (n + 1) ms))) far (later (eqb-true m.number n same))
    by_test false same later = (omega (arith, rising.0), rising.1)

all_waiting : (P : ℕ → Type 0) (n : ℕ) (ms : List Numbered) → AllByRecursion P (numbers_of ms) → AllByRecursion P (numbers_of (waiting n ms))
all_waiting P n [] all = tt
all_waiting P n (m ∷ ms) all = by_test (m.number == n) (all_waiting P (n + 1) ms all.1)
  where
    by_test : (b : Bool) → AllByRecursion P (numbers_of (waiting (n + 1) ms)) → AllByRecursion P (numbers_of (if b then waiting (n + 1) ms else m ∷ ms))
    by_test true later = later
    by_test false later = all

drained_in_reach : (n : ℕ) (ms : List Numbered) → InReach n ms → InReach (n + length (ready n ms)) (waiting n ms)
drained_in_reach n ms all = record {
  rising = rising_waiting n ms all.rising;
  near = near_farther n (n + length (ready n ms)) (waiting n ms) (omega arith) (all_waiting (λ x. x ≤ n + reach) n ms all.near);
}

met_in_reach : (next n : ℕ) (p : List ℕ) (ms : List Numbered) → InReach next ms → front next ms ≡ None
    → InReach (if n == next then next + 1 else next) (held_as (seen_as next n) p ms)
met_in_reach next n p ms all none = by_tests (n == next) refl (nat_lt n next) refl (nat_le n (next + reach)) refl
  where
    by_tests : (same : Bool) → (n == next) ≡ same → (below : Bool) → nat_lt n next ≡ below → (near : Bool) → nat_le n (next + reach) ≡ near
        → InReach (if same then next + 1 else next) (held_as (if same then Deliver n else if below then Repeat n else if near then Hold n else Gap n) p ms)
    by_tests true same below under near far = past_in_reach next ms all none
    by_tests false same true under near far = all
    by_tests false same false under true far = holding_in_reach next n p ms (omega (arith, ltb-false n next under)) (leb-true n (next + reach) far) all
    by_tests false same false under false far = all

pub stays_in_reach : StaysInReach
stays_in_reach w m all none =
    let v = met w m in
    (drained_in_reach v.next v.held (met_in_reach w.next m.number m.payload w.held all none), (front_by_front v.next v.held).left)

-- a gap is there exactly where the next number is missing
gap_there : (next end : ℕ) → IsSome {T = Range} (if nat_lt next end then Some (record { from = next; count = end - next }) else None) → next < end
gap_there next end some = by_test (nat_lt next end) refl some
  where
    by_test : (b : Bool) → nat_lt next end ≡ b → IsSome {T = Range} (if b then Some (record { from = next; count = end - next }) else None) → next < end
    by_test true t some = ltb-true next end t
    by_test false t some = absurd (false≢true some)

gap_back : (next end : ℕ) → next < end → IsSome {T = Range} (if nat_lt next end then Some (record { from = next; count = end - next }) else None)
gap_back next end h = rw (lt-ltb next end h) refl

pub gap_is_missing : GapIsMissing
gap_is_missing r [] all below = (λ some. (gap_there r.next r.live some, refl), λ both. gap_back r.next r.live both.0)
gap_is_missing r (m ∷ ms) all below = (there, λ both. gap_back r.next m.number (past (m.number == r.next) refl both.1))
  where
    there : IsSome (gap (Some m.number) r) → (r.next < r.live) × (front r.next (m ∷ ms) ≡ None)
    there some =
        let past : r.next < m.number = gap_there r.next m.number some in
        (omega (arith, past, below.0), rw (ne_eqb m.number r.next (omega (arith, past))) refl)

    past : (b : Bool) → (m.number == r.next) ≡ b → (if b then Some m else None) ≡ None → r.next < m.number
    past true same none = absurd (none-some m (sym none))
    past false same none = omega (arith, all.rising.0, eqb-false m.number r.next same)
