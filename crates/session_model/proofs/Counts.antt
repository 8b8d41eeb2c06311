-- Counted numbers stand once.
use Rattle.std.proofs.Common.{◌≡◌, ◌≢◌, ℕ, zero, suc, ◌+◌, ◌<◌, ◌≤◌, ◌==◌, Bool, true, false, if◌then◌else◌, List, ◌∷◌, refl, ap, arith, eqb-true, ne_eqb, zero-add, ◌∙◌, []}
use Rattle.std.proofs.lemmas.Bool.{eqb-false}
use Rattle.session_model.specs.Journal.{counts_from}
use Rattle.session_model.specs.Inbox.{times}
use Rattle.session_model.specs.Laws.{CountsStandOnce}
use Rattle.session_model.proofs.Lists.{times-append}

-- how often a number stands in counted numbers
times_first : (n m : ℕ) (ns : List ℕ) (b : Bool) → (m == n) ≡ b → times n (m ∷ ns) ≡ (if b then 1 else 0) + times n ns
times_first n m ns b e =
    times-append n (m ∷ []) ns ∙ ap (λ k. k + times n ns) (zero-add (if m == n then 1 else 0) ∙ ap (λ t. if t then 1 else 0) e)

counts_below : (n a k : ℕ) → n < a → times n (counts_from a k) ≡ 0
counts_below n a zero h = refl
counts_below n a (suc k) h =
    let other : (a == n) ≡ false = ne_eqb a n (omega arith) in
    omega (arith, times_first n a (counts_from (a + 1) k) false other, counts_below n (a + 1) k (omega arith))

counts_above : (n a k : ℕ) → a + k ≤ n → times n (counts_from a k) ≡ 0
counts_above n a zero h = refl
counts_above n a (suc k) h =
    let other : (a == n) ≡ false = ne_eqb a n (omega arith) in
    omega (arith, times_first n a (counts_from (a + 1) k) false other, counts_above n (a + 1) k (omega arith))

counts_within : (n a k : ℕ) → a ≤ n → n < a + k → times n (counts_from a k) ≡ 1
counts_within n a zero low high = absurd (omega arith)
counts_within n a (suc k) low high = by_test (a == n) refl (counts_within n (a + 1) k)
  where
    by_test : (b : Bool) → (a == n) ≡ b → (a + 1 ≤ n → n < a + 1 + k → times n (counts_from (a + 1) k) ≡ 1) → times n (counts_from a (suc k)) ≡ 1
    by_test true e further =
        let same : a ≡ n = eqb-true a n e in
        omega (arith, times_first n a (counts_from (a + 1) k) true e, counts_below n (a + 1) k (omega arith))
    by_test false e further =
        let other : a ≢ n = eqb-false a n e in
        omega (arith, times_first n a (counts_from (a + 1) k) false e, further (omega arith) (omega arith))

pub counts_stand_once : CountsStandOnce
counts_stand_once n k = (λ low high. counts_within n 1 k low (omega arith), λ h. counts_above n 1 k (omega arith), counts_below 0 1 k (omega arith))
