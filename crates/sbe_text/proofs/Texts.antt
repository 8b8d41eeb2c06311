-- The text of a value reads back as the value.
use Rattle.std.proofs.Common.{◌≡◌, ℕ, zero, suc, ◌+◌, ◌-◌, ◌*◌, ◌^◌, ◌<◌, ◌≤◌, ◌==◌, Bool, true, false, ◌&&◌, not, Some, None, List, [], ◌∷◌, ◌++◌, length, refl, sym, ap, ◌∙◌, subst, arith, append_assoc, decimal}
use Rattle.std.specs.Prelude.{ℤ, pos, negsuc, nat_le, nat_lt, if◌then◌else◌, ◌||◌, codes, slice_index}
use Rattle.std.specs.Fmt.{signed_decimal}
use Rattle.std.specs.Char.{digit_value}
use Rattle.std.specs.Str.{bytes_eq}
use Rattle.std.specs.Str.Parse.{AllDigits, digits_value, digits_value_after}
use Rattle.std.specs.Option.{option_map}
use Rattle.std.proofs.Math.Nat.{pow-suc, mul-le-mul_right}
use Rattle.std.proofs.Math.Seq.{drop-append_seam, take-append_seam}
use Rattle.std.proofs.lemmas.List.{length-append}
use Rattle.std.proofs.lemmas.Fmt.{decimal_is_IsNumeral_wide, length-decimal-le_wide}
use Rattle.std.proofs.lemmas.Str.Parse.{digit_from_value}
use Rattle.std.proofs.lemmas.Slice.Eq.{bytes_eq-Decides}
use Rattle.std.proofs.lemmas.Bool.{false≢true}
use Rattle.std.proofs.lemmas.Bool.Decides.{nat_tests, Decides-eqb}
use Rattle.hex.proofs.HexLemmas.{decode_of-encode_lower}
use Rattle.sbe_value.specs.declared.item.Item.{Item}
use Rattle.sbe_value.specs.declared.item.Item.TheVariants.{Num, Null, Absent, Text, Raw}
use Rattle.sbe_value.specs.declared.datum.Datum.{Datum}
use Rattle.sbe_value.specs.declared.datum.Datum.TheVariants as datum
use Rattle.sbe_grammar.specs.Fits.{Form, number, text, raw, has_form}
use Rattle.sbe_text.specs.declared.token.Count.TheVariants as count
use Rattle.sbe_text.specs.Written.{are_plain, quoted, raw_text, value_text, datum_text}
use Rattle.sbe_text.specs.Tokens.{decoded, plain, either_of, at_most, exactly, behind, in_front, also, value_on, is_digit, are_digits, held, natural_of, number_of, positive, negative, raw_of, quoted_of, characters_of, present_of, value_of, datum_of, count_of}
use Rattle.sbe_text.specs.Held.{are_bytes, is_number, is_item, is_datum}

pub both_left : (a b : Bool) → (a && b) ≡ true → a ≡ true
both_left true b p = refl
both_left false b p = absurd (false≢true p)

pub both_right : (a b : Bool) → (a && b) ≡ true → b ≡ true
both_right true b p = p
both_right false b p = absurd (false≢true p)

pub both : (a b : Bool) → a ≡ true → b ≡ true → (a && b) ≡ true
both true b p q = q
both false b p q = p

pub at_most_of : (n most : ℕ) → nat_le n most ≡ true → n ≤ most
at_most_of n most h = grind (arith, nat_tests)

at_most_test : (n most : ℕ) → n ≤ most → nat_le n most ≡ true
at_most_test n most h = grind (arith, nat_tests)

pub below_of : (n most : ℕ) → nat_lt n most ≡ true → n < most
below_of n most h = grind (arith, nat_tests)

-- ---- parts of a line

same_bytes : (xs : List ℕ) → bytes_eq xs xs ≡ true
same_bytes xs = (bytes_eq-Decides xs xs).1 refl

pub behind_joined : (xs ys : List ℕ) → behind xs (xs ++ ys) ≡ Some ys
behind_joined xs ys = rw (take-append_seam xs ys, same_bytes xs, drop-append_seam xs ys) refl

in_front_joined : (xs ys : List ℕ) → in_front ys (xs ++ ys) ≡ Some xs
in_front_joined xs ys =
    let size : length (xs ++ ys) - length ys ≡ length xs = omega (arith, length-append xs ys) in
    rw (size, drop-append_seam xs ys, same_bytes ys, take-append_seam xs ys) refl

pub value_on_joined : (before name value : List ℕ) → value_on before name (before ++ name ++ codes " = " ++ value) ≡ Some value
value_on_joined before name value =
    let line : before ++ name ++ codes " = " ++ value ≡ before ++ (name ++ (codes " = " ++ value)) = simp append_assoc in
    rw (line, behind_joined before (name ++ (codes " = " ++ value)), behind_joined name (codes " = " ++ value)) (behind_joined (codes " = ") value)

pub other_first : (b w : ℕ) (bs ws : List ℕ) → (b == w) ≡ false → bytes_eq (b ∷ bs) (w ∷ ws) ≡ false
other_first b w bs ws e = rw e refl

-- ---- numbers

digit_is : (c : ℕ) → digit_value c < 10 → is_digit c ≡ true
digit_is c h = let r = digit_from_value c h in grind (arith, nat_tests)

pub digits_are : (ds : List ℕ) → AllDigits 10 ds → are_digits ds ≡ true
digits_are [] h = refl
digits_are (c ∷ cs) h = both (is_digit c) (are_digits cs) (digit_is c h.0) (digits_are cs h.1)

digits_below : (n : ℕ) (ds : List ℕ) → AllDigits 10 ds → digits_value_after 10 n ds < (n + 1) * 10 ^ length ds
digits_below n [] h = omega arith
digits_below n (c ∷ cs) h =
    let rest : digits_value_after 10 (n * 10 + digit_value c) cs < (n * 10 + digit_value c + 1) * 10 ^ length cs = digits_below (n * 10 + digit_value c) cs h.1 in
    let small : digit_value c < 10 = h.0 in
    let more : (n * 10 + digit_value c + 1) * 10 ^ length cs ≤ ((n + 1) * 10) * 10 ^ length cs = mul-le-mul_right (10 ^ length cs) (omega arith) in
    rw (pow-suc 10 (length cs)) (omega arith)

-- a number of two digits or more begins with none that is 0
no_leading : (n b : ℕ) (bs : List ℕ) → n < 10 ^ 64 → decimal n ≡ b ∷ bs → (not (b == 48) || length bs == 0) ≡ true
no_leading n b [] h e = elim (b == 48) as (λ t. (not t || true) ≡ true) [ true ↦ refl | false ↦ refl ]
no_leading n b (c ∷ cs) h e =
    let numeral = decimal_is_IsNumeral_wide n h in
    let P : Bool → Type 0 = λ t. (b == 48) ≡ t → (not t || (length (c ∷ cs) == 0)) ≡ true in
    elim (b == 48) as P [
      | true ↦ λ z. absurd (too_long n b c cs h e ((Decides-eqb b 48).0 z) (subst (λ (ds : List ℕ). AllDigits 10 ds) e numeral.0.1) (ap (digits_value 10) (sym e) ∙ numeral.1))
      | false ↦ λ z. refl
    ] refl
  where
    too_long : (n b c : ℕ) (cs : List ℕ) → n < 10 ^ 64 → decimal n ≡ b ∷ c ∷ cs → b ≡ 48 → AllDigits 10 (b ∷ c ∷ cs) → digits_value 10 (b ∷ c ∷ cs) ≡ n → ⊥
    too_long n b c cs h e z all v =
        let rest : digits_value_after 10 0 (c ∷ cs) < (0 + 1) * 10 ^ length (c ∷ cs) = digits_below 0 (c ∷ cs) all.1 in
        let first : digits_value_after 10 0 (c ∷ cs) ≡ n = ap (λ (d : ℕ). digits_value_after 10 (0 * 10 + digit_value d) (c ∷ cs)) (sym z) ∙ v in
        let below : n < 10 ^ length (c ∷ cs) = omega arith in
        let short : length (decimal n) ≤ length (c ∷ cs) = length-decimal-le_wide (length (c ∷ cs)) n (omega arith) below h in
        let whole : length (decimal n) ≡ length (b ∷ c ∷ cs) = ap length e in
        omega arith

natural_by : (n : ℕ) (ds : List ℕ) → decimal n ≡ ds → 0 < length ds → are_digits ds ≡ true → digits_value 10 ds ≡ n → nat_le n (2 ^ 128 - 1) ≡ true → n < 10 ^ 64 → natural_of ds ≡ Some n
natural_by n [] e p d v h w = absurd (omega arith)
natural_by n (b ∷ bs) e p d v h w =
    let all : ((are_digits (b ∷ bs) && (not (b == 48) || length bs == 0)) && nat_le (digits_value 10 (b ∷ bs)) (2 ^ 128 - 1)) ≡ true = both _ _ (both _ _ d (no_leading n b bs w e)) (ap (λ m. nat_le m (2 ^ 128 - 1)) v ∙ h) in
    ap (λ t. if t then Some (digits_value 10 (b ∷ bs)) else None) all ∙ ap Some v

pub natural_back : (n : ℕ) → nat_le n (2 ^ 128 - 1) ≡ true → natural_of (decimal n) ≡ Some n
natural_back n h =
    let small : n ≤ 2 ^ 128 - 1 = at_most_of n (2 ^ 128 - 1) h in
    let wide : n < 10 ^ 64 = omega arith in
    let numeral = decimal_is_IsNumeral_wide n wide in
    natural_by n (decimal n) refl numeral.0.0 (digits_are (decimal n) numeral.0.1) numeral.1 h wide

-- the digits of a number begin with a digit
record FirstDigit (ds : List ℕ) : Type 0 where
  first : ℕ
  rest : List ℕ
  is : ds ≡ first ∷ rest
  digit : is_digit first ≡ true

first_of : (ds : List ℕ) → 0 < length ds → are_digits ds ≡ true → FirstDigit ds
first_of [] p d = absurd (omega arith)
first_of (b ∷ bs) p d = record { first = b; rest = bs; is = refl; digit = both_left (is_digit b) (are_digits bs) d }

first_digit : (n : ℕ) → n < 10 ^ 64 → FirstDigit (decimal n)
first_digit n h =
    let numeral = decimal_is_IsNumeral_wide n h in first_of (decimal n) numeral.0.0 (digits_are (decimal n) numeral.0.1)

pub digit_no : (b w : ℕ) → is_digit b ≡ true → is_digit w ≡ false → (b == w) ≡ false
digit_no b w d e = let P : Bool → Type 0 = λ t. (b == w) ≡ t → t ≡ false in elim (b == w) as P [ true ↦ λ h. absurd (false≢true (sym e ∙ ap is_digit (sym ((Decides-eqb b w).0 h)) ∙ d)) | false ↦ λ h. refl ] refl

digits_no_word : (ds : List ℕ) (w : ℕ) (ws : List ℕ) → FirstDigit ds → is_digit w ≡ false → bytes_eq ds (w ∷ ws) ≡ false
digits_no_word ds w ws f e = rw f.is (other_first f.first w f.rest ws (digit_no f.first w f.digit e))

unsigned_back : (ds : List ℕ) (n : ℕ) → FirstDigit ds → natural_of ds ≡ Some n → number_of ds ≡ positive n
unsigned_back [] n f e = absurd (cc f.is)
unsigned_back (b ∷ bs) n f e =
    let same : b ≡ f.first = cc f.is in
    ap (λ t. if t then also (natural_of bs) negative else also (natural_of (b ∷ bs)) positive) (digit_no b 45 (ap is_digit same ∙ f.digit) refl) ∙ ap (λ o. also o positive) e

number_back : (z : ℤ) → is_number z ≡ true → number_of (signed_decimal z) ≡ Some z
number_back (pos n) h =
    let small : n ≤ 2 ^ 127 - 1 = at_most_of n (2 ^ 127 - 1) h in
    let held : nat_le n (2 ^ 128 - 1) ≡ true = at_most_test n (2 ^ 128 - 1) (omega arith) in
    unsigned_back (decimal n) n (first_digit n (omega arith)) (natural_back n held) ∙ ap (λ t. option_map pos (if t then Some n else None)) h
number_back (negsuc n) h =
    let small : n ≤ 2 ^ 127 - 1 = at_most_of n (2 ^ 127 - 1) h in
    let held : nat_le (suc n) (2 ^ 128 - 1) ≡ true = at_most_test (suc n) (2 ^ 128 - 1) (omega arith) in
    ap (λ o. also o negative) (natural_back (suc n) held) ∙ ap (λ t. option_map negsuc (if t then Some n else None)) h

number_no_word : (z : ℤ) → is_number z ≡ true → (w : ℕ) (ws : List ℕ) → is_digit w ≡ false → (45 == w) ≡ false → bytes_eq (signed_decimal z) (w ∷ ws) ≡ false
number_no_word (pos n) h w ws e f =
    let small : n ≤ 2 ^ 127 - 1 = at_most_of n (2 ^ 127 - 1) h in digits_no_word (decimal n) w ws (first_digit n (omega arith)) e
number_no_word (negsuc n) h w ws e f = other_first 45 w (decimal (suc n)) ws f

-- ---- bytes

bytes_at : (bs : List ℕ) → are_bytes bs ≡ true → (i : ℕ) → slice_index bs i < 256
bytes_at [] h i = omega arith
bytes_at (b ∷ bs) h zero = below_of b 256 (both_left (nat_lt b 256) (are_bytes bs) h)
bytes_at (b ∷ bs) h (suc i) = bytes_at bs (both_right (nat_lt b 256) (are_bytes bs) h) i

raw_back : (bs : List ℕ) → are_bytes bs ≡ true → raw_of (raw_text bs) ≡ Some bs
raw_back bs h = ap decoded (decode_of-encode_lower bs (bytes_at bs h))

quoted_back : (bs : List ℕ) → are_plain bs ≡ true → quoted_of (quoted bs) ≡ Some bs
quoted_back bs h = ap (λ o. also o plain) (in_front_joined bs (34 ∷ [])) ∙ ap (λ t. if t then Some bs else None) h

characters_back : (bs : List ℕ) → are_bytes bs ≡ true → characters_of (value_text (Text bs)) ≡ Some bs
characters_back bs h =
    let P : Bool → Type 0 = λ t. are_plain bs ≡ t → characters_of (if t then quoted bs else raw_text bs) ≡ Some bs in
    elim (are_plain bs) as P [ true ↦ λ p. ap (λ o. either_of o (raw_of (quoted bs))) (quoted_back bs p) | false ↦ λ p. raw_back bs h ] refl

and_false : (t : Bool) → (t && false) ≡ false
and_false true = refl
and_false false = refl

no_absent : (bs : List ℕ) → bytes_eq (value_text (Text bs)) (codes "absent") ≡ false
no_absent bs = elim (are_plain bs) as (λ t. bytes_eq (if t then quoted bs else raw_text bs) (codes "absent") ≡ false) [ true ↦ refl | false ↦ refl ]

-- ---- values

pub value_back : (f : Form) (i : Item) → has_form f i ≡ true → is_item i ≡ true → value_of f (value_text i) ≡ Some i
value_back (number optional) (Num z) f h =
    ap (λ t. if t then Some Absent else present_of (number optional) (signed_decimal z)) (number_no_word z h 97 (codes "bsent") refl refl)
    ∙ ap (λ t. if optional && t then Some Null else option_map Num (number_of (signed_decimal z))) (number_no_word z h 110 (codes "ull") refl refl)
    ∙ ap (λ t. if t then Some Null else option_map Num (number_of (signed_decimal z))) (and_false optional)
    ∙ ap (option_map Num) (number_back z h)
value_back (number true) Null f h = refl
value_back (number false) Null f h = absurd (false≢true f)
value_back (number optional) Absent f h = refl
value_back (number optional) (Text bs) f h = absurd (false≢true f)
value_back (number optional) (Raw bs) f h = absurd (false≢true f)
value_back (text size) (Num z) f h = absurd (false≢true f)
value_back (text size) Null f h = absurd (false≢true f)
value_back (text size) Absent f h = refl
value_back (text size) (Text bs) f h = ap (λ t. if t then Some Absent else present_of (text size) (value_text (Text bs))) (no_absent bs)
    ∙ ap (λ o. option_map Text (also o (at_most size))) (characters_back bs h)
    ∙ ap (λ t. option_map Text (if t then Some bs else None)) f
value_back (text size) (Raw bs) f h = absurd (false≢true f)
value_back (raw size) (Num z) f h = absurd (false≢true f)
value_back (raw size) Null f h = absurd (false≢true f)
value_back (raw size) Absent f h = refl
value_back (raw size) (Text bs) f h = absurd (false≢true f)
value_back (raw size) (Raw bs) f h =
    ap (λ o. option_map Raw (also o (exactly size))) (raw_back bs h) ∙ ap (λ t. option_map Raw (if t then Some bs else None)) f

pub datum_back : (v : Datum) → is_datum v ≡ true → datum_of (datum_text v) ≡ Some v
datum_back datum.Absent h = refl
datum_back (datum.Present bs) h = ap (option_map datum.Present) (raw_back bs h)

pub count_back : (n : ℕ) → nat_le n (2 ^ 127 - 1) ≡ true → count_of (decimal n) ≡ Some (count.Entries n)
count_back n h =
    let small : n ≤ 2 ^ 127 - 1 = at_most_of n (2 ^ 127 - 1) h in
    let natural : nat_le n (2 ^ 128 - 1) ≡ true = at_most_test n (2 ^ 128 - 1) (omega arith) in
    ap (λ t. if t then Some count.Absent else option_map count.Entries (also (natural_of (decimal n)) held)) (digits_no_word (decimal n) 97 (codes "bsent") (first_digit n (omega arith)) refl)
    ∙ ap (λ o. option_map count.Entries (also o held)) (natural_back n natural)
    ∙ ap (λ t. option_map count.Entries (if t then Some n else None)) h
