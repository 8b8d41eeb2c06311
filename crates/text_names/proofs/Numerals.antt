-- The digits of a number are those in which it is written.
use Rattle.std.proofs.Common.{◌≡◌, ℕ, ◌-◌, ◌^◌, ◌<◌, ◌≤◌, ◌==◌, Bool, true, false, ◌&&◌, not, List, [], ◌∷◌, length, refl, ap, sym, ◌∙◌, arith, decimal}
use Rattle.std.specs.Prelude.{◌||◌, nat_le, nat_lt, Option, Some, None, if◌then◌else◌}
use Rattle.std.specs.Str.Parse.{digits_value}
use Rattle.std.proofs.lemmas.Bool.{false≢true}
use Rattle.std.proofs.lemmas.Bool.Decides.{nat_tests, Decides-eqb}
use Rattle.std.proofs.lemmas.Str.Parse.{IsDigitsTest, numerals_by_value}
use Rattle.std.proofs.lemmas.Fmt.{decimal-digits_value}
use Rattle.sbe_text.specs.Tokens.{are_digits, is_digit, natural_of}
use Rattle.sbe_text.proofs.Texts.{at_most_of, natural_back}
use Rattle.text_names.specs.Named.{short}
use Rattle.text_names.proofs.Bytes.{both, both_left, both_right}

digit_test : (c : ℕ) → 48 ≤ c → c ≤ 57 → is_digit c ≡ true
digit_test c a b = grind (arith, nat_tests)

digits_told : IsDigitsTest (λ ds. are_digits ds ≡ true)
digits_told = record {
  empty = refl;
  parts = λ c cs h. (
    (
      at_most_of 48 c (both_left (nat_le 48 c) (nat_le c 57) (both_left (is_digit c) (are_digits cs) h)),
      at_most_of c 57 (both_right (nat_le 48 c) (nat_le c 57) (both_left (is_digit c) (are_digits cs) h)),
    ),
    both_right (is_digit c) (are_digits cs) h,
  );
  more = λ c cs k h. both (is_digit c) (are_digits cs) (digit_test c k.0 k.1) h;
}

no_zero : (b : ℕ) (bs : List ℕ) → (not (b == 48) || length bs == 0) ≡ true → b ≡ 48 → length (b ∷ bs) ≡ 1
no_zero b bs h e = by_test (b == 48) refl h
  where
    by_test : (t : Bool) → (b == 48) ≡ t → (not t || length bs == 0) ≡ true → length (b ∷ bs) ≡ 1
    by_test true f h = let none : length bs ≡ 0 = (Decides-eqb (length bs) 0).0 h in omega arith
    by_test false f h = absurd (false≢true (sym f ∙ (Decides-eqb b 48).1 e))

pub natural_decimal : (text : List ℕ) (n : ℕ) → natural_of text ≡ Some n → n < 2 ^ 64 → decimal n ≡ text
natural_decimal [] n e small = absurd (cc)
natural_decimal (b ∷ bs) n e small = by_test _ refl e
  where
    by_test : (t : Bool) → ((are_digits (b ∷ bs) && (not (b == 48) || length bs == 0)) && nat_le (digits_value 10 (b ∷ bs)) (2 ^ 128 - 1)) ≡ t
        → (if t then Some (digits_value 10 (b ∷ bs)) else None) ≡ Some n → decimal n ≡ b ∷ bs
    by_test true h e =
        let same : digits_value 10 (b ∷ bs) ≡ n = cc in
        let front : (are_digits (b ∷ bs) && (not (b == 48) || length bs == 0)) ≡ true = both_left _ (nat_le (digits_value 10 (b ∷ bs)) (2 ^ 128 - 1)) h in
        let below : digits_value 10 (b ∷ bs) < 2 ^ 64 = omega arith in
        ap decimal (sym same)
        ∙ decimal-digits_value (numerals_by_value (λ ds. are_digits ds ≡ true) digits_told) (b ∷ bs) (both_left (are_digits (b ∷ bs)) _ front) (omega arith) (no_zero b bs (both_right (are_digits (b ∷ bs)) _ front)) below
    by_test false h e = absurd (cc)

-- what 64 bits hold is read where it is written
below_test : (n most : ℕ) → n < most → nat_lt n most ≡ true
below_test n most h = grind (arith, nat_tests)

least_test : (n most : ℕ) → n ≤ most → nat_le n most ≡ true
least_test n most h = grind (arith, nat_tests)

pub short_of : (text : List ℕ) (n : ℕ) → text ≡ decimal n → n < 2 ^ 64 → short (natural_of text) ≡ Some n
short_of text n e small =
    ap (λ (t : List ℕ). short (natural_of t)) e ∙ ap short (natural_back n (least_test n (2 ^ 128 - 1) (omega arith))) ∙ ap (λ (t : Bool). if t then Some n else None) (below_test n (2 ^ 64) small)

pub short_is : (text : List ℕ) (n : ℕ) → short (natural_of text) ≡ Some n → decimal n ≡ text
short_is text n e = by_natural (natural_of text) refl e
  where
    below_of : (n most : ℕ) → nat_lt n most ≡ true → n < most
    below_of n most h = grind (arith, nat_tests)

    by_test : (k : ℕ) → natural_of text ≡ Some k → (t : Bool) → nat_lt k (2 ^ 64) ≡ t → (if t then Some k else None) ≡ Some n → decimal n ≡ text
    by_test k f true h e = let same : k ≡ n = cc in ap decimal (sym same) ∙ natural_decimal text k f (below_of k (2 ^ 64) h)
    by_test k f false h e = absurd (cc)

    by_natural : (o : Option ℕ) → natural_of text ≡ o → short o ≡ Some n → decimal n ≡ text
    by_natural None f e = absurd (cc)
    by_natural (Some k) f e = by_test k f (nat_lt k (2 ^ 64)) refl e

-- and nothing else is
pub short_none : (text : List ℕ) → ((n : ℕ) → n < 2 ^ 64 → text ≡ decimal n → ⊥) → short (natural_of text) ≡ None
short_none text none = by_natural (natural_of text) refl
  where
    below_of : (n most : ℕ) → nat_lt n most ≡ true → n < most
    below_of n most h = grind (arith, nat_tests)

    by_test : (k : ℕ) → natural_of text ≡ Some k → (t : Bool) → nat_lt k (2 ^ 64) ≡ t → (if t then Some k else None) ≡ None
    by_test k f true h = let small = below_of k (2 ^ 64) h in absurd (none k small (sym (natural_decimal text k f small)))
    by_test k f false h = refl

    by_natural : (o : Option ℕ) → natural_of text ≡ o → short o ≡ None
    by_natural None f = refl
    by_natural (Some k) f = by_test k f (nat_lt k (2 ^ 64)) refl
