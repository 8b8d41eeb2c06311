-- Numbers in decimal, and what stands behind them.
use Rattle.std.proofs.Common.{◌≡◌, ℕ, zero, suc, ◌+◌, ◌%◌, ◌<◌, ◌≤◌, ◌^◌, ◌⊎◌, inl, inr, List, [], ◌∷◌, ◌++◌, length, get_or, refl, ap, sym, ◌∙◌, arith, decimal}
use Rattle.std.specs.Prelude.{Result, Ok, false}
use Rattle.std.specs.Str.{IsUtf8, bytes_eq}
use Rattle.std.proofs.lemmas.Bool.{false≢true}
use Rattle.std.proofs.lemmas.Slice.Eq.{bytes_eq-Decides}
use Rattle.std.specs.Str.Parse.{ParsesUnsigned, digits_value}
use Rattle.std.proofs.lemmas.Fmt.{decimal_by_steps, parse-decimal, IsAscii-decimal, decimal_is_IsNumeral}
use Rattle.std.proofs.lemmas.Str.{IsUtf8-from_ascii}

-- no element is this one
abbrev pub HasNone : ℕ → List ℕ → Type 0
HasNone end xs = (k : ℕ) → k < length xs → get_or xs k 0 ≡ end → ⊥

-- a digit in decimal
abbrev pub IsDigit : ℕ → Type 0
IsDigit d = (48 ≤ d) × (d ≤ 57)

-- a byte that is none
abbrev pub IsNoDigit : ℕ → Type 0
IsNoDigit end = (end < 48) ⊎ (57 < end)

abbrev AreDigits : List ℕ → Type 0
AreDigits ds = (k : ℕ) → k < length ds → IsDigit (get_or ds k 0)

digits-push : (ds : List ℕ) (d : ℕ) → AreDigits ds → IsDigit d → AreDigits (ds ++ d ∷ [])
digits-push [] d h p zero l = p
digits-push [] d h p (suc k) l = absurd (omega arith)
digits-push (x ∷ xs) d h p zero l = h 0 (omega arith)
digits-push (x ∷ xs) d h p (suc k) l = digits-push xs d (λ j m. h (suc j) (omega arith)) p k (omega arith)

one_digit : (d : ℕ) → IsDigit d → AreDigits (d ∷ [])
one_digit d p zero l = p
one_digit d p (suc k) l = absurd (omega arith)

are_digits : (n : ℕ) → n < 2 ^ 64 → AreDigits (decimal n)
are_digits n small =
    decimal_by_steps (λ m ds. AreDigits ds)
    (λ m l. one_digit (48 + m) (omega arith, omega arith))
    (λ m ds l h. digits-push ds (48 + m % 10) h (omega arith, omega arith)) n small

-- a number in decimal has no byte that is no digit
pub no_end : (n end : ℕ) → n < 2 ^ 64 → IsNoDigit end → HasNone end (decimal n)
no_end n end small other k l e = apart (get_or (decimal n) k 0) (are_digits n small k l) other e
  where
    apart : (d : ℕ) → IsDigit d → IsNoDigit end → d ≡ end → ⊥
    apart d p (inl low) e = omega (arith, p.0, p.1)
    apart d p (inr high) e = omega (arith, p.0, p.1)

-- what stands at both sides of the first such byte
pub same_halves : (end : ℕ) (xs ds ys rest : List ℕ) → HasNone end xs → HasNone end ds → xs ++ end ∷ ys ≡ ds ++ end ∷ rest → (xs ≡ ds) × (ys ≡ rest)
same_halves end [] [] ys rest p q e = (refl, cc)
same_halves end [] (d ∷ ds) ys rest p q e = absurd (q 0 (omega arith) (cc))
same_halves end (x ∷ xs) [] ys rest p q e = absurd (p 0 (omega arith) (cc))
same_halves end (x ∷ xs) (d ∷ ds) ys rest p q e =
    let tails : xs ++ end ∷ ys ≡ ds ++ end ∷ rest = cc in
    let more = same_halves end xs ds ys rest (λ k l. p (suc k) (omega arith)) (λ k l. q (suc k) (omega arith)) tails in
    let fronts : xs ≡ ds = more.0 in
    (cc, more.1)

-- a number below 2^64 in decimal is text, and is read as that number
pub is_text : (n : ℕ) (text : List ℕ) → n < 2 ^ 64 → text ≡ decimal n → IsUtf8 text
is_text n text small e = rw e (IsUtf8-from_ascii (decimal n) (IsAscii-decimal n small))

pub is_read : {E : Type 0} (n : ℕ) (text : List ℕ) (r : Result ℕ E) → n < 2 ^ 64 → text ≡ decimal n → ParsesUnsigned 64 10 text r → r ≡ Ok n
is_read n text r small e p = parse-decimal 64 n text r small small e p

-- the number at the front, and what stands behind it, are the only ones
pub only_front : (text xs ys rest : List ℕ) (end n : ℕ) → text ≡ xs ++ end ∷ ys → HasNone end xs → n < 2 ^ 64 → IsNoDigit end → text ≡ decimal n ++ end ∷ rest → (xs ≡ decimal n) × (ys ≡ rest)
only_front text xs ys rest end n split none small low e = same_halves end xs (decimal n) ys rest none (no_end n end small low) (sym split ∙ e)

-- a text without such a byte has none behind a number
pub no_front : (text rest : List ℕ) (end n : ℕ) → HasNone end text → text ≡ decimal n ++ end ∷ rest → ⊥
no_front text rest end n none e = within (decimal n) rest end text none e
  where
    within : (ds rest : List ℕ) (end : ℕ) (text : List ℕ) → HasNone end text → text ≡ ds ++ end ∷ rest → ⊥
    within [] rest end [] none e = cc
    within [] rest end (x ∷ xs) none e = none 0 (omega arith) (cc)
    within (d ∷ ds) rest end [] none e = cc
    within (d ∷ ds) rest end (x ∷ xs) none e = let tails : xs ≡ ds ++ end ∷ rest = cc in within ds rest end xs (λ k l. none (suc k) (omega arith)) tails

-- a number is told by how it is written
pub one_number : (n m : ℕ) → n < 2 ^ 64 → m < 2 ^ 64 → decimal n ≡ decimal m → n ≡ m
one_number n m small other e = sym (decimal_is_IsNumeral n small).1 ∙ ap (digits_value 10) e ∙ (decimal_is_IsNumeral m other).1

-- equal bytes do not compare as different
pub not_same : (xs ys : List ℕ) → xs ≡ ys → bytes_eq xs ys ≡ false → ⊥
not_same xs ys e f = false≢true (sym f ∙ (bytes_eq-Decides xs ys).1 e)
