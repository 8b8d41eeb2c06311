-- Numbers on lines, and the items and the data of lines.
use Rattle.std.proofs.Common.{◌≡◌, ℕ, zero, suc, ◌-◌, ◌^◌, ◌<◌, ◌≤◌, ◌==◌, Bool, true, false, not, ◌&&◌, if◌then◌else◌, Option, Some, None, Ok, Err, List, [], ◌∷◌, ◌++◌, length, take, drop, get_or, refl, ap, sym, ◌∙◌, arith, append_assoc, pos, ◌≢◌, inl, inr, codes}
use Rattle.std.specs.Prelude.{nat_le, ◌||◌, ◌⊎◌, IfSome}
use Rattle.std.specs.Borrow.{Bor}
use Rattle.std.specs.Str.Parse.{digits_value}
use Rattle.std.specs.Option.{option_map}
use Rattle.std.proofs.lemmas.Bool.Decides.{nat_tests, Decides-eqb}
use Rattle.std.proofs.Math.Seq.{take-length}
use Rattle.std.proofs.lemmas.List.{take-append-drop}
use Rattle.sbe_prim.specs.declared.Order.{Order}
use Rattle.sbe_value.specs.declared.item.Item.{Item}
use Rattle.sbe_value.specs.declared.item.Item.TheVariants.{Num, Null, Absent}
use Rattle.sbe_layout.specs.declared.items.ItemPlan.{ItemPlan}
use Rattle.sbe_layout.specs.declared.listings.Listing.{Listing}
use Rattle.sbe_grammar.specs.Fits.{number, form_of, has_form}
use Rattle.sbe_grammar.specs.Canonical.{is_absent, is_admitted, item_bytes}
use Rattle.sbe_encode.specs.declared.fault.EncodeFault.{EncodeFault}
use Rattle.sbe_encode.specs.declared.fault.EncodeFault.TheVariants.{Range}
use Rattle.sbe_value.specs.declared.path.Step.TheVariants.{Key}
use Rattle.sbe_encode.specs.Faults.{shape_of, item_fault}
use Rattle.text_words.specs.Lines.{lines_in, in_first}
use Rattle.sbe_text.specs.declared.token.Count.TheVariants as count
use Rattle.sbe_text.specs.Held.{is_word}
use Rattle.sbe_text.specs.Read.{Read, next, taken, read_line}
use Rattle.sbe_text.specs.Tokens.{AreInFront, also, value_on, is_digit, are_digits, held, natural_of, number_of, positive, negative, present_of, value_of, count_of}
use Rattle.sbe_text.specs.Written.{element_line}
use Rattle.sbe_text.specs.Reading.{read_element, read_item}
use Rattle.sbe_text.proofs.Texts.{both_left, both, other_first, digit_no}
use Rattle.sbe_text.proofs.Printed.{digits_word, element_back, word_append}
use Rattle.sbe_from_text.specs.Written.{written}
use Rattle.sbe_from_text.proofs.Parts.{made, left_behind}

-- ---- the parts of a line

-- eight bytes in front are the same, and so are those behind them
pub path_front : (path text first front others rest : List ℕ) → first ≡ take 8 path → others ≡ drop 8 path → front ≡ take 8 text → rest ≡ drop 8 text → first ≡ front → (behind : Option (Bor (List ℕ))) → IfSome behind (λ b. rest ≡ others ++ b.now) → IfSome behind (λ b. text ≡ path ++ b.now)
path_front path text first front others rest a b c d same None h = h
path_front path text first front others rest a b c d same (Some x) h =
    sym (take-append-drop 8 text)
    ∙ ap (λ z. z ++ drop 8 text) (sym c ∙ sym same ∙ a)
    ∙ ap (λ z. take 8 path ++ z) (sym d ∙ h ∙ ap (λ z. z ++ x.now) b)
    ∙ sym (append_assoc (take 8 path) (drop 8 path) x.now)
    ∙ ap (λ z. z ++ x.now) (take-append-drop 8 path)

line_found : (before name left own rest text behind_number : List ℕ) (k n : ℕ) → is_word before ≡ true → is_word name ≡ true → left ≡ before ++ own → own ≡ name ++ rest → rest ≡ codes " = " ++ text → natural_of (take k text) ≡ Some n → is_word (take k text) ≡ true → drop k text ≡ 10 ∷ behind_number → read_element before name natural_of (lines_in left) ≡ Ok (n, lines_in behind_number)
line_found before name left own rest text behind_number k n w v a b c told digits end =
    let number = take k text in
    let parts : text ≡ number ++ (10 ∷ behind_number) = sym (take-append-drop k text) ∙ ap (λ z. number ++ z) end in
    let line : element_line before name number ++ behind_number ≡ before ++ (name ++ (codes " = " ++ (number ++ (10 ∷ behind_number)))) =
    append_assoc (before ++ name ++ codes " = " ++ number) (10 ∷ []) behind_number
    ∙ append_assoc (before ++ name ++ codes " = ") number (10 ∷ behind_number)
    ∙ append_assoc (before ++ name) (codes " = ") (number ++ (10 ∷ behind_number))
    ∙ append_assoc before name (codes " = " ++ (number ++ (10 ∷ behind_number))) in
    let whole : left ≡ element_line before name number ++ behind_number =
    a ∙ ap (λ z. before ++ z) (b ∙ ap (λ z. name ++ z) (c ∙ ap (λ z. codes " = " ++ z) parts)) ∙ sym line in
    ap (λ z. read_element before name natural_of (lines_in z)) whole ∙ element_back before name number behind_number natural_of n w v digits told

-- ---- lines that end with a carriage return and a line feed

no_end_by : (s r : Bool) (bs : List ℕ) → ((not s && not r) && is_word bs) ≡ true → (s ≡ false) × (r ≡ false) × (is_word bs ≡ true)
no_end_by true r bs h = absurd (cc)
no_end_by false true bs h = absurd (cc)
no_end_by false false bs h = (refl, refl, h)

in_front : (b : ℕ) (bs : List ℕ) → (b == 10) ≡ false → (b == 13) ≡ false → lines_in (b ∷ bs) ≡ in_first b (lines_in bs)
in_front b bs e f = rw (e, f) refl

-- behind a word such an end is one of a line feed alone
returned_same : (word rest : List ℕ) → is_word word ≡ true → lines_in (word ++ 13 ∷ 10 ∷ rest) ≡ lines_in (word ++ 10 ∷ rest)
returned_same [] rest h = refl
returned_same (b ∷ bs) rest h =
    let ends = no_end_by (b == 10) (b == 13) bs h in
    in_front b (bs ++ 13 ∷ 10 ∷ rest) ends.0 ends.1 ∙ ap (in_first b) (returned_same bs rest ends.2) ∙ sym (in_front b (bs ++ 10 ∷ rest) ends.0 ends.1)

line_returned : (before name left own rest text behind_number : List ℕ) (k n : ℕ) → is_word before ≡ true → is_word name ≡ true → left ≡ before ++ own → own ≡ name ++ rest → rest ≡ codes " = " ++ text → natural_of (take k text) ≡ Some n → is_word (take k text) ≡ true → drop k text ≡ 13 ∷ 10 ∷ behind_number → read_element before name natural_of (lines_in left) ≡ Ok (n, lines_in behind_number)
line_returned before name left own rest text behind_number k n w v a b c told digits end =
    let number = take k text in
    let word : List ℕ = before ++ name ++ codes " = " ++ number in
    let parts : text ≡ number ++ (13 ∷ 10 ∷ behind_number) = sym (take-append-drop k text) ∙ ap (λ z. number ++ z) end in
    let line : word ++ (13 ∷ 10 ∷ behind_number) ≡ before ++ (name ++ (codes " = " ++ (number ++ (13 ∷ 10 ∷ behind_number)))) =
    append_assoc (before ++ name ++ codes " = ") number (13 ∷ 10 ∷ behind_number)
    ∙ append_assoc (before ++ name) (codes " = ") (number ++ (13 ∷ 10 ∷ behind_number))
    ∙ append_assoc before name (codes " = " ++ (number ++ (13 ∷ 10 ∷ behind_number))) in
    let whole : left ≡ word ++ (13 ∷ 10 ∷ behind_number) =
    a ∙ ap (λ z. before ++ z) (b ∙ ap (λ z. name ++ z) (c ∙ ap (λ z. codes " = " ++ z) parts)) ∙ sym line in
    let is : is_word word ≡ true = word_append (before ++ name ++ codes " = ") number (word_append (before ++ name) (codes " = ") (word_append before name w v) refl) digits in
    let same : lines_in left ≡ lines_in (element_line before name number ++ behind_number) =
    ap lines_in whole ∙ returned_same word behind_number is ∙ ap lines_in (sym (append_assoc word (10 ∷ []) behind_number)) in
    ap (λ z. read_element before name natural_of z) same ∙ element_back before name number behind_number natural_of n w v digits told

pub line_ended : (before name left own rest text back behind_number : List ℕ) (k n : ℕ) → is_word before ≡ true → is_word name ≡ true → left ≡ before ++ own → own ≡ name ++ rest → rest ≡ codes " = " ++ text → natural_of (take k text) ≡ Some n → is_word (take k text) ≡ true → drop k text ≡ back → (back ≡ 10 ∷ behind_number) ⊎ (back ≡ 13 ∷ 10 ∷ behind_number) → read_element before name natural_of (lines_in left) ≡ Ok (n, lines_in behind_number)
line_ended before name left own rest text back behind_number k n w v a b c told digits is (inl end) = line_found before name left own rest text behind_number k n w v a b c told digits (is ∙ end)
line_ended before name left own rest text back behind_number k n w v a b c told digits is (inr end) = line_returned before name left own rest text behind_number k n w v a b c told digits (is ∙ end)

-- the first byte, and those behind it
pub first_and_rest : (bytes : List ℕ) (b : ℕ) → 1 ≤ length bytes → get_or bytes 0 0 ≡ b → bytes ≡ b ∷ take (length bytes - 1) (drop 1 bytes)
first_and_rest [] b long is = absurd (omega arith)
first_and_rest (x ∷ xs) b long is =
    let count : length (x ∷ xs) - 1 ≡ length xs = omega arith in
    let all : take (length (x ∷ xs) - 1) xs ≡ xs = ap (λ n. take n xs) count ∙ take-length xs in
    ap (λ y. y ∷ xs) is ∙ ap (λ ys. b ∷ ys) (sym all)

-- what stands between a path and its value, and the bytes behind it
pub equals_and_rest : (bytes : List ℕ) → 3 ≤ length bytes → get_or bytes 0 0 ≡ 32 → get_or bytes 1 0 ≡ 61 → get_or bytes 2 0 ≡ 32 → bytes ≡ codes " = " ++ take (length bytes - 3) (drop 3 bytes)
equals_and_rest [] long x y z = absurd (omega arith)
equals_and_rest (a ∷ []) long x y z = absurd (omega arith)
equals_and_rest (a ∷ b ∷ []) long x y z = absurd (omega arith)
equals_and_rest (a ∷ b ∷ c ∷ xs) long x y z =
    let count : length (a ∷ b ∷ c ∷ xs) - 3 ≡ length xs = omega arith in
    let all : take (length (a ∷ b ∷ c ∷ xs) - 3) xs ≡ xs = ap (λ n. take n xs) count ∙ take-length xs in
    ap (λ n. n ∷ b ∷ c ∷ xs) x ∙ ap (λ n. 32 ∷ n ∷ c ∷ xs) y ∙ ap (λ n. 32 ∷ 61 ∷ n ∷ xs) z ∙ ap (λ ys. 32 ∷ 61 ∷ 32 ∷ ys) (sym all)

-- ---- the number in front of a text

held_test : (n most : ℕ) → n ≤ most → nat_le n most ≡ true
held_test n most h = grind (arith, nat_tests)

no_zero : (b : ℕ) (bs : List ℕ) → ((b == 48) ≡ true → length bs ≡ 0) → (not (b == 48) || length bs == 0) ≡ true
no_zero b bs =
    elim (b == 48) as (λ t. (t ≡ true → length bs ≡ 0) → (not t || length bs == 0) ≡ true) [
      | true ↦ λ h. (Decides-eqb (length bs) 0).1 (h refl)
      | false ↦ λ h. refl
    ]

pub natural_found : (ds : List ℕ) (n : ℕ) → 0 < length ds → are_digits ds ≡ true → digits_value 10 ds ≡ n → n < 2 ^ 64 → (get_or ds 0 0 ≡ 48 → length ds ≡ 1) → natural_of ds ≡ Some n
natural_found [] n p d v h z = absurd (omega arith)
natural_found (b ∷ bs) n p d v h z =
    let first : (not (b == 48) || length bs == 0) ≡ true =
    no_zero b bs (λ e. let one : length (b ∷ bs) ≡ 1 = z ((Decides-eqb b 48).0 e) in omega (arith, one)) in
    let small : nat_le n (2 ^ 128 - 1) ≡ true = held_test n (2 ^ 128 - 1) (omega arith) in
    let all : ((are_digits (b ∷ bs) && (not (b == 48) || length bs == 0)) && nat_le (digits_value 10 (b ∷ bs)) (2 ^ 128 - 1)) ≡ true =
    both _ _ (both _ _ d first) (ap (λ m. nat_le m (2 ^ 128 - 1)) v ∙ small) in
    ap (λ t. if t then Some (digits_value 10 (b ∷ bs)) else None) all ∙ ap Some v

-- a first digit that is 0 stands alone
pub few : (first count : ℕ) → ((first ≡ 48) × (count ≤ 1)) ⊎ (first ≢ 48) → first ≡ 48 → count ≤ 1
few first count (inl alone) e = alone.1
few first count (inr other) e = absurd (other e)

pub leading_found : (text : List ℕ) (n count : ℕ) → 1 ≤ length text → AreInFront text n count → n < 2 ^ 64 → 0 < count → (get_or text 0 0 ≡ 48 → count ≤ 1) → natural_of (take count text) ≡ Some n
leading_found [] n count long front small some z = absurd (omega arith)
leading_found (first ∷ others) n zero long front small some z = absurd (omega arith)
leading_found (first ∷ others) n (suc k) long front small some z =
    natural_found (first ∷ take k others) n (omega arith) front.digits front.value small (λ e. alone k others (z e))
  where
    alone : (k : ℕ) (others : List ℕ) → suc k ≤ 1 → length (first ∷ take k others) ≡ 1
    alone zero others h = refl
    alone (suc k) others h = absurd (omega arith)

pub leading_word : (text : List ℕ) (n count : ℕ) → AreInFront text n count → is_word (take count text) ≡ true
leading_word text n count front = digits_word (take count text) front.digits

-- ---- what a number is for an element

digit_front : (b : ℕ) (bs : List ℕ) (n : ℕ) → natural_of (b ∷ bs) ≡ Some n → is_digit b ≡ true
digit_front b bs n h =
    let test = (are_digits (b ∷ bs) && (not (b == 48) || length bs == 0)) && nat_le (digits_value 10 (b ∷ bs)) (2 ^ 128 - 1) in
    let P : Bool → Type 0 = λ t. test ≡ t → (if t then Some (digits_value 10 (b ∷ bs)) else None) ≡ Some n → is_digit b ≡ true in
    elim test as P [
      | true ↦ λ e _. both_left (is_digit b) (are_digits bs) (both_left (are_digits (b ∷ bs)) (not (b == 48) || length bs == 0) (both_left (are_digits (b ∷ bs) && (not (b == 48) || length bs == 0)) _ e))
      | false ↦ λ e k. absurd (cc)
    ] refl h

and_none : (t : Bool) → (t && false) ≡ false
and_none true = refl
and_none false = refl

pub value_told : (optional : Bool) (n : ℕ) → n < 2 ^ 64 → (t : List ℕ) → natural_of t ≡ Some n → value_of (number optional) t ≡ Some (Num (pos n))
value_told optional n h [] e = absurd (cc)
value_told optional n h (b ∷ bs) e =
    let digit = digit_front b bs n e in
    let small : nat_le n (2 ^ 127 - 1) ≡ true = held_test n (2 ^ 127 - 1) (omega arith) in
    let told : number_of (b ∷ bs) ≡ Some (pos n) =
    ap (λ t. if t then also (natural_of bs) negative else also (natural_of (b ∷ bs)) positive) (digit_no b 45 digit refl)
    ∙ ap (λ o. also o positive) e ∙ ap (λ t. option_map pos (if t then Some n else None)) small in
    ap (λ t. if t then Some Absent else present_of (number optional) (b ∷ bs)) (other_first b 97 bs (codes "bsent") (digit_no b 97 digit refl))
    ∙ ap (λ t. if optional && t then Some Null else option_map Num (number_of (b ∷ bs))) (other_first b 110 bs (codes "ull") (digit_no b 110 digit refl))
    ∙ ap (λ t. if t then Some Null else option_map Num (number_of (b ∷ bs))) (and_none optional)
    ∙ ap (option_map Num) told

pub count_is : (n : ℕ) → n < 2 ^ 64 → (t : List ℕ) → natural_of t ≡ Some n → count_of t ≡ Some (count.Entries n)
count_is n h [] e = absurd (cc)
count_is n h (b ∷ bs) e =
    let digit = digit_front b bs n e in
    let small : nat_le n (2 ^ 127 - 1) ≡ true = held_test n (2 ^ 127 - 1) (omega arith) in
    ap (λ t. if t then Some count.Absent else option_map count.Entries (also (natural_of (b ∷ bs)) held)) (other_first b 97 bs (codes "bsent") (digit_no b 97 digit refl))
    ∙ ap (λ o. option_map count.Entries (also o held)) e
    ∙ ap (λ t. option_map count.Entries (if t then Some n else None)) small

-- ---- the line of an element

taken_as : {A B : Type 0} (left : ℕ) (o : Option A) (p : Option B) (x : A) (y : B) (r rest : List (List ℕ)) → (o ≡ Some x → p ≡ Some y) → taken left o r ≡ Ok (x, rest) → taken left p r ≡ Ok (y, rest)
taken_as left None p x y r rest k e = absurd (cc)
taken_as left (Some m) p x y r rest k e =
    let same : m ≡ x = ap (made x) e in
    let behind : r ≡ rest = ap left_behind e in
    ap (λ q. taken left q r) (k (ap Some same)) ∙ ap (λ z. Ok (y, z)) behind

line_as : {A B : Type 0} (made : List ℕ → Option A) (other : List ℕ → Option B) (x : A) (y : B) (left : ℕ) (r : Read (List ℕ)) (rest : List (List ℕ)) → ((t : List ℕ) → made t ≡ Some x → other t ≡ Some y) → next r (λ value behind. taken left (made value) behind) ≡ Ok (x, rest) → next r (λ value behind. taken left (other value) behind) ≡ Ok (y, rest)
line_as made other x y left (Ok v) rest each e = taken_as left (made v.0) (other v.0) x y v.1 rest (each v.0) e
line_as made other x y left (Err n) rest each e = absurd (cc)

-- what makes one thing of a value, and what makes another
pub element_as : {A B : Type 0} (before name : List ℕ) (made : List ℕ → Option A) (other : List ℕ → Option B) (x : A) (y : B) (ls rest : List (List ℕ)) → ((t : List ℕ) → made t ≡ Some x → other t ≡ Some y) → read_element before name made ls ≡ Ok (x, rest) → read_element before name other ls ≡ Ok (y, rest)
element_as before name made other x y ls rest each e =
    line_as made other x y (length ls) (read_line (value_on before name) ls) rest each e

-- the value on a line makes something
pub element_is : {A : Type 0} (before name text : List ℕ) (made : List ℕ → Option A) (x : A) (ls rest : List (List ℕ)) → read_line (value_on before name) ls ≡ Ok (text, rest) → made text ≡ Some x → read_element before name made ls ≡ Ok (x, rest)
element_is before name text made x ls rest line told =
    ap (λ r. next r (λ value behind. taken (length ls) (made value) behind)) line ∙ ap (λ o. taken (length ls) o rest) told

-- ---- the item and the datum on a line

-- what is read has no fault, and its bytes stand behind others
pub read_written : {A : Type 0} (old new : List ℕ) (fault : A → Option EncodeFault) (bytes : A → List ℕ) (r : Read A) (x : A) (rest : List (List ℕ)) → r ≡ Ok (x, rest) → fault x ≡ None → new ≡ old ++ bytes x → written old fault bytes r ≡ Ok ((None, new), rest)
read_written old new fault bytes r x rest is clear added =
    ap (written old fault bytes) is ∙ ap (λ t. Ok ((t, old ++ bytes x), rest)) clear ∙ ap (λ z. Ok ((None, z), rest)) (sym added)

pub number_written : (listings : List Listing) (order : Order) (before old new : List ℕ) (p : ItemPlan) (n : ℕ) (ls rest : List (List ℕ)) → form_of p ≡ number (has_form (form_of p) Null) → n < 2 ^ 64 → read_element before p.name natural_of ls ≡ Ok (n, rest) → is_admitted listings p.kind (Num (pos n)) ≡ true → new ≡ old ++ item_bytes order p (Num (pos n)) → written old (item_fault listings p) (item_bytes order p) (read_item before p ls) ≡ Ok ((None, new), rest)
number_written listings order before old new p n ls rest form small line admitted added =
    let optional = has_form (form_of p) Null in
    let i : Item = Num (pos n) in
    let is : read_item before p ls ≡ Ok (i, rest) =
    ap (λ f. read_element before p.name (value_of f) ls) form ∙ element_as before p.name natural_of (value_of (number optional)) n i ls rest (value_told optional n small) line in
    let clear : item_fault listings p i ≡ None =
    ap (λ f. if not (not (is_absent i) && has_form f i) then shape_of p.name else (if not (is_admitted listings p.kind i) then Some (Range (Key p.name ∷ [])) else None)) form
    ∙ ap (λ t. if not t then Some (Range (Key p.name ∷ [])) else None) admitted in
    read_written old new (item_fault listings p) (item_bytes order p) (read_item before p ls) i rest is clear added
