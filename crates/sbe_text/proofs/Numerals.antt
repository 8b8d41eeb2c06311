-- Decimal digits, one after another.
use Rattle.std.proofs.Common.{◌≡◌, ℕ, zero, suc, ◌+◌, ◌-◌, ◌*◌, ◌^◌, ◌<◌, ◌≤◌, Bool, true, false, List, [], ◌∷◌, length, take, drop, get_or, refl, ap, sym, ◌∙◌, ◌≢◌, decimal, arith, add-one}
use Rattle.std.proofs.lemmas.Fmt.{length-decimal-le}
use Rattle.std.specs.Prelude.{◌&&◌, nat_le, Some, None, if◌then◌else◌}
use Rattle.std.proofs.lemmas.Bool.Decides.{nat_tests}
use Rattle.std.specs.Char.{digit_value}
use Rattle.std.specs.Str.Parse.{digits_value, digits_value_after}
use Rattle.std.proofs.Math.Seq.{take-length}
use Rattle.sbe_text.specs.Tokens.{AreInFront, is_digit, are_digits}

-- a number of 64 bits has at most 20 digits
pub short_decimal : (n : ℕ) → n < 2 ^ 64 → length (decimal n) ≤ 20
short_decimal n h = length-decimal-le 20 n (omega arith) (omega (arith, h)) h

-- digits behind a number make it no smaller
pub digits_grow : (n : ℕ) (ds : List ℕ) → n ≤ digits_value_after 10 n ds
digits_grow n [] = omega arith
digits_grow n (c ∷ cs) = let rest = digits_grow (n * 10 + digit_value c) cs in omega arith

value_of_digit : (c : ℕ) → is_digit c ≡ true → digit_value c ≡ c - 48
value_of_digit c h = grind (arith, nat_tests)

and_false : (t : Bool) → (t && false) ≡ false
and_false true = refl
and_false false = refl

digit_first : (c : ℕ) (cs : List ℕ) → are_digits (c ∷ cs) ≡ true → is_digit c ≡ true
digit_first c cs h = grind (arith, nat_tests)

digits_rest : (c : ℕ) (cs : List ℕ) → are_digits (c ∷ cs) ≡ true → are_digits cs ≡ true
digits_rest c cs h = grind (arith, nat_tests)

pub digits_next : (ds : List ℕ) (i n : ℕ) → i < length ds → are_digits (drop i ds) ≡ true → digits_value_after 10 n (drop i ds) ≡ digits_value_after 10 (n * 10 + (get_or ds i 0 - 48)) (drop (i + 1) ds)
digits_next ds i n p h = rw add-one (next ds i n p h)
  where
    next : (ds : List ℕ) (i n : ℕ) → i < length ds → are_digits (drop i ds) ≡ true → digits_value_after 10 n (drop i ds) ≡ digits_value_after 10 (n * 10 + (get_or ds i 0 - 48)) (drop (suc i) ds)
    next [] i n p h = absurd (omega arith)
    next (d ∷ ds) zero n p h = ap (λ v. digits_value_after 10 (n * 10 + v) ds) (value_of_digit d (digit_first d ds h))
    next (d ∷ ds) (suc i) n p h = next ds i n (omega arith) h

pub digits_left : (ds : List ℕ) (i : ℕ) → i < length ds → are_digits (drop i ds) ≡ true → are_digits (drop (i + 1) ds) ≡ true
digits_left ds i p h = rw add-one (left ds i p h)
  where
    left : (ds : List ℕ) (i : ℕ) → i < length ds → are_digits (drop i ds) ≡ true → are_digits (drop (suc i) ds) ≡ true
    left [] i p h = absurd (omega arith)
    left (d ∷ ds) zero p h = digits_rest d ds h
    left (d ∷ ds) (suc i) p h = left ds i (omega arith) h

-- one digit more in front
pub more_digits : (ds : List ℕ) (i : ℕ) → i < length ds → are_digits (take i ds) ≡ true → is_digit (get_or ds i 0) ≡ true → are_digits (take (i + 1) ds) ≡ true
more_digits ds i p h e = rw add-one (more ds i p h e)
  where
    more : (ds : List ℕ) (i : ℕ) → i < length ds → are_digits (take i ds) ≡ true → is_digit (get_or ds i 0) ≡ true → are_digits (take (suc i) ds) ≡ true
    more [] i p h e = absurd (omega arith)
    more (d ∷ ds) zero p h e = rw e refl
    more (d ∷ ds) (suc i) p h e =
        rw (digit_first d (take i ds) h) (more ds i (omega arith) (digits_rest d (take i ds) h) e)

pub more_value : (ds : List ℕ) (i : ℕ) → i < length ds → is_digit (get_or ds i 0) ≡ true → digits_value 10 (take (i + 1) ds) ≡ digits_value 10 (take i ds) * 10 + (get_or ds i 0 - 48)
more_value ds i p e = rw add-one (more 0 ds i p e)
  where
    more : (n : ℕ) (ds : List ℕ) (i : ℕ) → i < length ds → is_digit (get_or ds i 0) ≡ true → digits_value_after 10 n (take (suc i) ds) ≡ digits_value_after 10 n (take i ds) * 10 + (get_or ds i 0 - 48)
    more n [] i p e = absurd (omega arith)
    more n (d ∷ ds) zero p e = ap (λ v. n * 10 + v) (value_of_digit d e)
    more n (d ∷ ds) (suc i) p e = more (n * 10 + digit_value d) ds i (omega arith) e

-- a byte that is no digit
pub no_digits : (ds : List ℕ) (i : ℕ) → i < length ds → is_digit (get_or ds i 0) ≡ false → are_digits ds ≡ false
no_digits [] i p e = absurd (omega arith)
no_digits (d ∷ ds) zero p e = rw e refl
no_digits (d ∷ ds) (suc i) p e = rw (no_digits ds i (omega arith) e) (and_false (is_digit d))

pub digits_done : (ds : List ℕ) (i n : ℕ) → length ds ≤ i → digits_value_after 10 n (drop i ds) ≡ n
digits_done [] zero n p = refl
digits_done [] (suc i) n p = refl
digits_done (d ∷ ds) zero n p = absurd (omega arith)
digits_done (d ∷ ds) (suc i) n p = digits_done ds i n (omega arith)

within : (n most : ℕ) → n ≤ most → nat_le n most ≡ true
within n most p = grind (arith, nat_tests)

-- digits whose number is held
held_digits : (ds : List ℕ) (n most : ℕ) → are_digits ds ≡ true → digits_value 10 ds ≡ n → n ≤ most → Some n ≡ (if are_digits ds && nat_le (digits_value 10 ds) most then Some (digits_value 10 ds) else None)
held_digits ds n most digits e p = rw (digits, e, within n most p) refl

-- the digits in front are the whole text, or there are other bytes in it
pub all_in_front : (text : List ℕ) (n count most : ℕ) → AreInFront text n count → count ≡ length text → n ≤ most → Some n ≡ (if are_digits text && nat_le (digits_value 10 text) most then Some (digits_value 10 text) else None)
all_in_front text n count most front all p =
    let whole : take count text ≡ text = ap (λ k. take k text) all ∙ take-length text in
    held_digits text n most (ap are_digits (sym whole) ∙ front.digits) (ap (digits_value 10) (sym whole) ∙ front.value) p

pub some_in_front : (text : List ℕ) (n count most : ℕ) → AreInFront text n count → count ≢ length text → None ≡ (if are_digits text && nat_le (digits_value 10 text) most then Some (digits_value 10 text) else None)
some_in_front text n count most front some =
    let less : count < length text = omega (arith, front.within, some) in
    rw (front.end less) refl

-- a number that is held is the one that the digits make
pub held_number : (m n most : ℕ) → m ≡ n → n ≤ most → Some n ≡ (if nat_le m most then Some m else None)
held_number m n most e p = rw e (rw (within n most p) refl)
