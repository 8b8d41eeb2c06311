-- The last digit of a number, and those before it.
use Rattle.std.proofs.Common.{◌≡◌, ℕ, zero, suc, ◌+◌, ◌-◌, ◌/◌, ◌%◌, [], ◌∷◌, ◌++◌, refl, ap, arith}
use Rattle.text_dates.specs.Dates.{digits}

pub digits_more : (count n : ℕ) → (count ≡ 0 → ⊥) → digits count n ≡ digits (count - 1) (n / 10) ++ (48 + n % 10) ∷ []
unfolding digits
digits_more zero n some = absurd (some refl)
digits_more (suc more) n some =
    let less : more ≡ suc more - 1 = omega arith in
    ap (λ (k : ℕ). digits k (n / 10) ++ (48 + n % 10) ∷ []) less

pub digits_none : (n : ℕ) → digits 0 n ≡ []
unfolding digits
digits_none n = refl
