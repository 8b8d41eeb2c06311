-- What is held lies within reach, and its numbers are numbers of 64 bits.
use Rattle.std.proofs.Common.{◌≡◌, ℕ, zero, suc, ◌+◌, ◌^◌, ◌<◌, ◌≤◌, ◌==◌, nat_lt, Bool, true, false, if◌then◌else◌, List, [], ◌∷◌, length, get_or, Option, Some, None, sym, arith}
use Rattle.std.proofs.lemmas.Option.{none-some}
use Rattle.std.specs.List.{AllByRecursion}
use Rattle.session_model.specs.Inbox.{Numbered, numbers_of, Ascending}
use Rattle.flow_window.specs.Window.{holding, InReach}
use Rattle.flow_window.specs.Places.{held_from, without, Fit}

-- the numbers of the places rise, from the first place's on
rising_from : (n m : ℕ) (places : List (Option (List ℕ))) → n ≤ m → Ascending n (numbers_of (held_from m places))
rising_from n m [] h = tt
rising_from n m (None ∷ places) h = rising_from n (m + 1) places (omega arith)
rising_from n m (Some q ∷ places) h = (h, rising_from (m + 1) (m + 1) places (omega arith))

near_from : (top n : ℕ) (places : List (Option (List ℕ))) → n + length places ≤ top + 1 → AllByRecursion (λ k. k ≤ top) (numbers_of (held_from n places))
near_from top n [] h = tt
near_from top n (None ∷ places) h = near_from top (n + 1) places (omega arith)
near_from top n (Some q ∷ places) h = (omega arith, near_from top (n + 1) places (omega arith))

pub held_in_reach : (n : ℕ) (places : List (Option (List ℕ))) → length places ≡ 257 → InReach n (held_from n places)
held_in_reach n places h = record {
  rising = rising_from n n places (omega arith);
  near = near_from (n + 256) n places (omega (arith, h));
}

-- what holds of the numbers held holds of them with one more, and with one less
pub all_holding : (P : ℕ → Type 0) (k : ℕ) (p : List ℕ) (ms : List Numbered) → P k → AllByRecursion P (numbers_of ms)
    → AllByRecursion P (numbers_of (holding k p ms))
all_holding P k p [] new all = (new, tt)
all_holding P k p (m ∷ ms) new all = by_tests (m.number == k) (nat_lt k m.number) (all_holding P k p ms new all.1)
  where
    by_tests : (same below : Bool) → AllByRecursion P (numbers_of (holding k p ms))
        → AllByRecursion P (numbers_of (if same then m ∷ ms else if below then record { number = k; payload = p } ∷ m ∷ ms else m ∷ holding k p ms))
    by_tests true below later = all
    by_tests false true later = (new, all)
    by_tests false false later = (all.0, later)

pub fit_holding : (k : ℕ) (p : List ℕ) (ms : List Numbered) → k < 2 ^ 64 → Fit ms → Fit (holding k p ms)
fit_holding k p ms new fit = all_holding (λ n. n < 2 ^ 64) k p ms new fit

pub fit_without : (n : ℕ) (ms : List Numbered) → Fit ms → Fit (without n ms)
fit_without n [] fit = tt
fit_without n (m ∷ ms) fit = by_test (m.number == n)
  where
    by_test : (b : Bool) → Fit (if b then ms else m ∷ ms)
    by_test true = fit.1
    by_test false = fit

-- so the number of a place that is taken fits
pub fit_at : (n i : ℕ) (places : List (Option (List ℕ))) (p : List ℕ) → i < length places → Some p ≡ get_or places i (Some p) → Fit (held_from n places) → n + i < 2 ^ 64
fit_at n i [] p h is fit = absurd (omega arith)
fit_at n zero (None ∷ places) p h is fit = absurd (none-some p (sym is))
fit_at n zero (Some q ∷ places) p h is fit = omega (arith, fit.0)
fit_at n (suc i) (None ∷ places) p h is fit = let later = fit_at (n + 1) i places p (omega arith) is fit in omega (arith, later)
fit_at n (suc i) (Some q ∷ places) p h is fit = let later = fit_at (n + 1) i places p (omega arith) is fit.1 in omega (arith, later)
