-- A string of decimal digits is read by `parse` unless its number is too great.
use Rattle.std.proofs.Common.{◌≡◌, ◌+◌, ◌-◌, ◌<◌, ◌≤◌, ◌^◌, ◌&&◌, ◌==◌, ℕ, Bool, true, false, not, nat_le, List, [], ◌∷◌, length, Option, Some, None, min, option_map, refl, ap, sym, arith}
use Rattle.std.proofs.lemmas.Bool.{and_parts}
use Rattle.std.proofs.lemmas.Bool.Decides.{nat_tests}
use Rattle.std.proofs.lemmas.Str.{digit_value_digit}
use Rattle.std.proofs.Math.Nat.{lt_of_not-le, min-eq_right}
use Rattle.std.specs.Char.{is_ascii_digit, digit_value}
use Rattle.std.specs.Str.Parse.{AllDigits, IsNumeral, digits_value, without_leading_plus}
use Rattle.toml_walk.specs.Values.{are_digits, wide_number}

pub all_digits : (bs : List ℕ) → are_digits bs ≡ true → AllDigits 10 bs
all_digits [] h = tt
all_digits (b ∷ bs) h =
    let (here, more) = and_parts (is_ascii_digit b) (are_digits bs) h in
    let range : (48 ≤ b) × (b ≤ 57) = grind (arith, nat_tests) in
    (omega (arith, digit_value_digit b range), all_digits bs more)

pub no_plus : (b : ℕ) (bs : List ℕ) → are_digits (b ∷ bs) ≡ true → without_leading_plus (b ∷ bs) ≡ b ∷ bs
no_plus b bs h =
    let (here, more) = and_parts (is_ascii_digit b) (are_digits bs) h in
    let other : (b == 43) ≡ false = grind (arith, nat_tests) in
    rw other refl

not_below : (n : ℕ) → 2 ^ 128 - 1 < n → nat_le n (2 ^ 63 - 1) ≡ false
not_below n past = grind (arith, nat_tests)

-- what is answered of digits that `parse` refuses
pub too_great : (bs : List ℕ) → 0 < length bs → are_digits bs ≡ true
    → ((IsNumeral 10 (without_leading_plus bs) × (digits_value 10 (without_leading_plus bs) < 2 ^ 128)) → ⊥)
    → Some (2 ^ 128 - 1) ≡ option_map (λ n. min n (2 ^ 128 - 1)) (wide_number bs)
too_great [] some h refused = absurd (omega arith)
too_great (b ∷ bs) some h refused =
    let value = digits_value 10 (b ∷ bs) in
    let numeral : IsNumeral 10 (b ∷ bs) = (some, all_digits (b ∷ bs) h) in
    let same = no_plus b bs h in
    let past : 2 ^ 128 - 1 < value = lt_of_not-le (λ most. refused (rw same (numeral, omega (arith, most)))) in
    rw (h, not_below value past) (ap Some (sym (min-eq_right (omega (arith, past)))))
