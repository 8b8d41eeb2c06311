-- The lines of a message read back as the message.
use Rattle.std.proofs.Common.{◌≡◌, ◌≢◌, ℕ, suc, ◌+◌, ◌-◌, ◌/◌, ◌%◌, ◌^◌, ◌<◌, ◌≤◌, ◌==◌, Bool, true, false, ◌&&◌, not, Option, Some, None, Ok, List, [], ◌∷◌, ◌++◌, length, refl, sym, ap, ◌∙◌, subst, arith, append_assoc, decimal}
use Rattle.std.specs.Prelude.{ℤ, pos, negsuc, IsTrue, nat_le, nat_lt, if◌then◌else◌, codes, slice_index}
use Rattle.std.specs.List.{AllByRecursion}
use Rattle.std.specs.Fmt.{signed_decimal}
use Rattle.std.specs.Str.{bytes_eq}
use Rattle.std.proofs.lemmas.Fmt.{decimal_is_IsNumeral_wide}
use Rattle.std.proofs.lemmas.Slice.Eq.{bytes_eq-Decides}
use Rattle.std.proofs.lemmas.Bool.{false≢true}
use Rattle.std.proofs.lemmas.Bool.Decides.{nat_tests, Decides-eqb}
use Rattle.hex.specs.Hex.{encode_with, encode_lower, lower_digits, hex_digit_value}
use Rattle.hex.proofs.HexLemmas.{IsDigits-lower_digits}
use Rattle.sbe_value.specs.declared.item.Item.{Item}
use Rattle.sbe_value.specs.declared.item.Item.TheVariants.{Num, Null, Absent, Text, Raw}
use Rattle.sbe_value.specs.declared.datum.Datum.{Datum}
use Rattle.sbe_value.specs.declared.datum.Datum.TheVariants as datum
use Rattle.sbe_value.specs.declared.message.Message.{Message}
use Rattle.sbe_value.specs.Trees.{GroupList, BlockList, no_groups, absent, entries, no_blocks, block, count_of_blocks}
use Rattle.sbe_layout.specs.declared.items.ItemPlan.{ItemPlan}
use Rattle.sbe_layout.specs.declared.items.DataPlan.{DataPlan}
use Rattle.sbe_layout.specs.declared.plan.MessagePlan.{MessagePlan}
use Rattle.sbe_layout.specs.declared.plan.Plan.{Plan}
use Rattle.sbe_layout.specs.Plans.{message_of}
use Rattle.sbe_layout.specs.Trees.{PlanHead, PlanTree, no_plans, plan}
use Rattle.sbe_grammar.specs.Fits.{form_of, has_form, fit_items, fit_data, fit_groups, fit_entries, fits_layout, Fits}
use Rattle.sbe_value.specs.declared.tree.Group.TheVariants as group
use Rattle.sbe_grammar.specs.Reading.{Entry}
use Rattle.sbe_text.specs.declared.token.Count.TheVariants as count
use Rattle.text_words.specs.Lines.{lines_in, unreturned}
use Rattle.sbe_text.specs.Read.{Read, next, taken, read_line, read_each}
use Rattle.sbe_text.specs.Written.{is_plain, are_plain, quoted, raw_text, value_text, datum_text, element_line, before_in, item_lines, lines_of_data, group_lines, entry_lines, message_line, end_line, message_lines, lines_of_message}
use Rattle.sbe_text.specs.Tokens.{also, is_digit, are_digits, value_of, datum_of, count_of}
use Rattle.sbe_text.specs.Reading.{read_element, read_item, read_datum, read_elements, entry_at, repeated, read_group, read_groups, named, layout_on, read_message, message_of_text}
use Rattle.sbe_text.specs.Held.{are_bytes, is_number, is_item, are_items, is_datum, are_data, are_groups, are_blocks, is_message, is_word, items_have_words, data_have_words, groups_have_words, message_has_words, HaveOwnNames, HasWords}
use Rattle.text_words.proofs.Feeds.{no_feeds, first_of_lines}
use Rattle.sbe_text.proofs.Fitting.{layout_found}
use Rattle.sbe_text.proofs.Texts.{at_most_of, below_of, both, both_left, both_right, behind_joined, value_on_joined, digits_are, value_back, datum_back, count_back}

-- ---- words

abbrev is_word_byte : ℕ → Bool
is_word_byte byte = not (byte == 10) && not (byte == 13)

feedless : (a b c d : Bool) → c ≡ true → ((not a && not b) && d) ≡ true → (not a && c) ≡ true
feedless true b c d p h = absurd (false≢true h)
feedless false b c d p h = p

word_no_feeds : (xs : List ℕ) → is_word xs ≡ true → no_feeds xs ≡ true
word_no_feeds [] h = refl
word_no_feeds (x ∷ xs) h = feedless (x == 10) (x == 13) (no_feeds xs) (is_word xs) (word_no_feeds xs (both_right (is_word_byte x) (is_word xs) h)) h

no_return : (a b d : Bool) → ((not a && not b) && d) ≡ true → b ≡ false
no_return true b d h = absurd (false≢true h)
no_return false true d h = absurd (false≢true h)
no_return false false d h = refl

word_unreturned : (xs : List ℕ) → is_word xs ≡ true → unreturned xs ≡ xs
word_unreturned [] h = refl
word_unreturned (x ∷ []) h = rw (no_return (x == 10) (x == 13) true h) refl
word_unreturned (x ∷ y ∷ ys) h = ap (λ bs. x ∷ bs) (word_unreturned (y ∷ ys) (both_right (is_word_byte x) (is_word (y ∷ ys)) h))

pub line_back : (xs rest : List ℕ) → is_word xs ≡ true → lines_in (xs ++ 10 ∷ rest) ≡ xs ∷ lines_in rest
line_back xs rest h = first_of_lines xs rest (word_no_feeds xs h) ∙ ap (λ x. x ∷ lines_in rest) (word_unreturned xs h)

pub word_append : (xs ys : List ℕ) → is_word xs ≡ true → is_word ys ≡ true → is_word (xs ++ ys) ≡ true
word_append [] ys h k = k
word_append (x ∷ xs) ys h k = both (is_word_byte x) (is_word (xs ++ ys)) (both_left (is_word_byte x) (is_word xs) h) (word_append xs ys (both_right (is_word_byte x) (is_word xs) h) k)

digit_word : (c : ℕ) → is_digit c ≡ true → is_word_byte c ≡ true
digit_word c h = grind (arith, nat_tests)

pub digits_word : (ds : List ℕ) → are_digits ds ≡ true → is_word ds ≡ true
digits_word [] h = refl
digits_word (c ∷ cs) h = both (is_word_byte c) (is_word cs) (digit_word c (both_left (is_digit c) (are_digits cs) h)) (digits_word cs (both_right (is_digit c) (are_digits cs) h))

pub decimal_word : (n : ℕ) → n < 10 ^ 64 → is_word (decimal n) ≡ true
decimal_word n h = digits_word (decimal n) (digits_are (decimal n) (decimal_is_IsNumeral_wide n h).0.1)

plain_byte : (c : ℕ) → is_plain c ≡ true → is_word_byte c ≡ true
plain_byte c h = grind (arith, nat_tests)

plain_word : (bs : List ℕ) → are_plain bs ≡ true → is_word bs ≡ true
plain_word [] h = refl
plain_word (b ∷ bs) h = both (is_word_byte b) (is_word bs) (plain_byte b (both_left (is_plain b) (are_plain bs) h)) (plain_word bs (both_right (is_plain b) (are_plain bs) h))

no_hex : (c w d : ℕ) → hex_digit_value c ≡ Some d → hex_digit_value w ≡ None → (c == w) ≡ false
no_hex c w d h k =
    let P : Bool → Type 0 = λ t. (c == w) ≡ t → t ≡ false in
    elim (c == w) as P [ true ↦ λ e. let none : Some d ≡ None = sym h ∙ ap hex_digit_value ((Decides-eqb c w).0 e) ∙ k in absurd (cc) | false ↦ λ e. refl ] refl

hex_word : (d : ℕ) → d < 16 → is_word_byte (slice_index lower_digits d) ≡ true
hex_word d h =
    let read = IsDigits-lower_digits d h in
    rw (no_hex (slice_index lower_digits d) 10 d read refl, no_hex (slice_index lower_digits d) 13 d read refl) refl

encoded_word : (bs : List ℕ) → are_bytes bs ≡ true → is_word (encode_lower bs) ≡ true
unfolding encode_with
encoded_word [] h = refl
encoded_word (b ∷ bs) h =
    let small : b < 256 = below_of b 256 (both_left (nat_lt b 256) (are_bytes bs) h) in
    both (is_word_byte (slice_index lower_digits (b / 16))) _ (hex_word (b / 16) (omega arith)) (both (is_word_byte (slice_index lower_digits (b % 16))) _ (hex_word (b % 16) (omega arith)) (encoded_word bs (both_right (nat_lt b 256) (are_bytes bs) h)))

number_word : (z : ℤ) → is_number z ≡ true → is_word (signed_decimal z) ≡ true
number_word (pos n) h = let small : n ≤ 2 ^ 127 - 1 = at_most_of n (2 ^ 127 - 1) h in decimal_word n (omega arith)
number_word (negsuc n) h = let small : n ≤ 2 ^ 127 - 1 = at_most_of n (2 ^ 127 - 1) h in decimal_word (suc n) (omega arith)

value_word : (i : Item) → is_item i ≡ true → is_word (value_text i) ≡ true
value_word (Num z) h = number_word z h
value_word Null h = refl
value_word Absent h = refl
value_word (Text bs) h =
    let P : Bool → Type 0 = λ t. are_plain bs ≡ t → is_word (if t then quoted bs else raw_text bs) ≡ true in
    elim (are_plain bs) as P [ true ↦ λ p. word_append bs (34 ∷ []) (plain_word bs p) refl | false ↦ λ p. encoded_word bs h ] refl
value_word (Raw bs) h = encoded_word bs h

datum_word : (v : Datum) → is_datum v ≡ true → is_word (datum_text v) ≡ true
datum_word datum.Absent h = refl
datum_word (datum.Present bs) h = encoded_word bs h

-- ---- elements

next_back : {A B : Type 0} (r : Read A) (x : A) (after : List (List ℕ)) (more : A → List (List ℕ) → Read B) (y : Read B) → r ≡ Ok (x, after) → more x after ≡ y → next r more ≡ y
next_back r x after more y e k = ap (λ q. next q more) e ∙ k

element_lined : (before name value rest : List ℕ) → is_word before ≡ true → is_word name ≡ true → is_word value ≡ true → lines_in (element_line before name value ++ rest) ≡ (before ++ name ++ codes " = " ++ value) ∷ lines_in rest
element_lined before name value rest h k m =
    ap lines_in (append_assoc (before ++ name ++ codes " = " ++ value) (10 ∷ []) rest)
    ∙ line_back (before ++ name ++ codes " = " ++ value) rest (word_append (before ++ name ++ codes " = ") value (word_append (before ++ name) (codes " = ") (word_append before name h k) refl) m)

pub element_back : {A : Type 0} (before name value rest : List ℕ) (made : List ℕ → Option A) (x : A) → is_word before ≡ true → is_word name ≡ true → is_word value ≡ true → made value ≡ Some x → read_element before name made (lines_in (element_line before name value ++ rest)) ≡ Ok (x, lines_in rest)
element_back before name value rest made x h k m e =
    rw (element_lined before name value rest h k m, value_on_joined before name value, e) refl

items_back : (before : List ℕ) (is : List Item) (ps : List ItemPlan) (rest : List ℕ) → is_word before ≡ true → items_have_words ps ≡ true → fit_items is ps ≡ true → are_items is ≡ true → read_each (read_item before) ps (lines_in (item_lines [] before is ps ++ rest)) ≡ Ok (is, lines_in rest)
items_back before [] [] rest w n f h = refl
items_back before [] (p ∷ ps) rest w n f h = absurd (false≢true f)
items_back before (i ∷ is) [] rest w n f h = absurd (false≢true f)
items_back before (i ∷ is) (p ∷ ps) rest w n f h =
    let held = both_left (is_item i) (are_items is) h in
    ap (λ text. read_each (read_item before) (p ∷ ps) (lines_in text)) (append_assoc (element_line before p.name (value_text i)) (item_lines [] before is ps) rest)
    ∙ next_back (read_item before p (lines_in (element_line before p.name (value_text i) ++ (item_lines [] before is ps ++ rest)))) i (lines_in (item_lines [] before is ps ++ rest)) _ _
    (element_back before p.name (value_text i) (item_lines [] before is ps ++ rest) (value_of (form_of p)) i w (both_left (is_word p.name) (items_have_words ps) n) (value_word i held) (value_back (form_of p) i (both_left (has_form (form_of p) i) (fit_items is ps) f) held))
    (next_back (read_each (read_item before) ps (lines_in (item_lines [] before is ps ++ rest))) is (lines_in rest) _ _
    (items_back before is ps rest w (both_right (is_word p.name) (items_have_words ps) n) (both_right (has_form (form_of p) i) (fit_items is ps) f) (both_right (is_item i) (are_items is) h))
    refl)

data_back : (before : List ℕ) (vs : List Datum) (ds : List DataPlan) (rest : List ℕ) → is_word before ≡ true → data_have_words ds ≡ true → length vs ≡ length ds → are_data vs ≡ true → read_each (read_datum before) ds (lines_in (lines_of_data before vs ds ++ rest)) ≡ Ok (vs, lines_in rest)
data_back before [] [] rest w n f h = refl
data_back before [] (d ∷ ds) rest w n f h = absurd (omega arith)
data_back before (v ∷ vs) [] rest w n f h = absurd (omega arith)
data_back before (v ∷ vs) (d ∷ ds) rest w n f h =
    let held = both_left (is_datum v) (are_data vs) h in
    ap (λ text. read_each (read_datum before) (d ∷ ds) (lines_in text)) (append_assoc (element_line before d.name (datum_text v)) (lines_of_data before vs ds) rest)
    ∙ next_back (read_datum before d (lines_in (element_line before d.name (datum_text v) ++ (lines_of_data before vs ds ++ rest)))) v (lines_in (lines_of_data before vs ds ++ rest)) _ _
    (element_back before d.name (datum_text v) (lines_of_data before vs ds ++ rest) datum_of v w (both_left (is_word d.name) (data_have_words ds) n) (datum_word v held) (datum_back v held))
    (next_back (read_each (read_datum before) ds (lines_in (lines_of_data before vs ds ++ rest))) vs (lines_in rest) _ _
    (data_back before vs ds rest w (both_right (is_word d.name) (data_have_words ds) n) (omega arith) (both_right (is_datum v) (are_data vs) h))
    refl)

-- ---- groups

pub at_word : (before : List ℕ) (g : PlanHead) (at : ℕ) → is_word before ≡ true → is_word g.name ≡ true → at < 10 ^ 64 → is_word (before_in before g at) ≡ true
at_word before g at w n h =
    word_append (before ++ g.name ++ 91 ∷ decimal at) (93 ∷ 46 ∷ []) (word_append (before ++ g.name) (91 ∷ decimal at) (word_append before g.name w n) (decimal_word at h)) refl

four : (a b c d e : List ℕ) → (a ++ b ++ c ++ d) ++ e ≡ a ++ (b ++ (c ++ (d ++ e)))
four a b c d e = simp append_assoc

three : (a b c d : List ℕ) → (a ++ b ++ c) ++ d ≡ a ++ (b ++ (c ++ d))
three a b c d = simp append_assoc

-- the words of a group's parts
record GroupWords (g : PlanHead) (inner rest : PlanTree) : Type 0 where
  name : is_word g.name ≡ true
  items : items_have_words g.items ≡ true
  inside : groups_have_words inner ≡ true
  vars : data_have_words g.vars ≡ true
  others : groups_have_words rest ≡ true

group_words : (g : PlanHead) (inner rest : PlanTree) → groups_have_words (plan g inner rest) ≡ true → GroupWords g inner rest
group_words g inner rest h =
    let a = both_right (is_word g.name) _ h in
    let b = both_right (items_have_words g.items) _ a in
    let c = both_right (groups_have_words inner) _ b in record {
      name = both_left (is_word g.name) _ h;
      items = both_left (items_have_words g.items) _ a;
      inside = both_left (groups_have_words inner) _ b;
      vars = both_left (data_have_words g.vars) _ c;
      others = both_right (data_have_words g.vars) _ c;
    }

counts_equal : (vs : List Datum) (ds : List DataPlan) → fit_data vs ds ≡ true → length vs ≡ length ds
counts_equal vs ds h = (Decides-eqb (length vs) (length ds)).0 h

mutual
  groups_back : (gs : GroupList) (ps : PlanTree) (before rest : List ℕ) → is_word before ≡ true → groups_have_words ps ≡ true → fit_groups gs ps ≡ true → are_groups gs ≡ true → read_groups before ps (lines_in (group_lines [] before gs ps ++ rest)) ≡ Ok (gs, lines_in rest)
  groups_back no_groups no_plans before rest w n f h = refl
  groups_back no_groups (plan g inner more) before rest w n f h = absurd (false≢true f)
  groups_back (absent gs) no_plans before rest w n f h = absurd (false≢true f)
  groups_back (absent gs) (plan g inner more) before rest w n f h =
      let words = group_words g inner more n in
      let left = group_lines [] before gs more ++ rest in
      ap (λ text. read_groups before (plan g inner more) (lines_in text)) (append_assoc (element_line before g.name (codes "absent")) (group_lines [] before gs more) rest)
      ∙ next_back (read_group before g (λ path. read_groups path inner) (lines_in (element_line before g.name (codes "absent") ++ left))) group.Absent (lines_in left) _ _
      (next_back (read_element before g.name count_of (lines_in (element_line before g.name (codes "absent") ++ left))) count.Absent (lines_in left) _ _ (element_back before g.name (codes "absent") left count_of count.Absent w words.name refl refl) refl)
      (next_back (read_groups before more (lines_in left)) gs (lines_in rest) _ _ (groups_back gs more before rest w words.others f h) refl)
  groups_back (entries bs gs) no_plans before rest w n f h = absurd (false≢true f)
  groups_back (entries bs gs) (plan g inner more) before rest w n f h =
      let words = group_words g inner more n in
      let many = both_left (nat_le (count_of_blocks bs) (2 ^ 127 - 1)) (are_blocks bs && are_groups gs) h in
      let held = both_right (nat_le (count_of_blocks bs) (2 ^ 127 - 1)) (are_blocks bs && are_groups gs) h in
      let small : count_of_blocks bs ≤ 2 ^ 127 - 1 = at_most_of (count_of_blocks bs) (2 ^ 127 - 1) many in
      let left = group_lines [] before gs more ++ rest in
      let behind_line = entry_lines [] before 0 bs g inner ++ left in
      ap (λ text. read_groups before (plan g inner more) (lines_in text)) (three (element_line before g.name (decimal (count_of_blocks bs))) (entry_lines [] before 0 bs g inner) (group_lines [] before gs more) rest)
      ∙ next_back (read_group before g (λ path. read_groups path inner) (lines_in (element_line before g.name (decimal (count_of_blocks bs)) ++ behind_line))) (group.Entries bs) (lines_in left) _ _
      (next_back (read_element before g.name count_of (lines_in (element_line before g.name (decimal (count_of_blocks bs)) ++ behind_line))) (count.Entries (count_of_blocks bs)) (lines_in behind_line) _ _
      (element_back before g.name (decimal (count_of_blocks bs)) behind_line count_of (count.Entries (count_of_blocks bs)) w words.name (decimal_word (count_of_blocks bs) (omega arith)) (count_back (count_of_blocks bs) many))
      (next_back (repeated (count_of_blocks bs) 0 (entry_at before g (λ path. read_groups path inner)) (lines_in behind_line)) bs (lines_in left) _ _
      (entries_back bs g inner before left 0 (omega arith) w words.name words.items words.inside words.vars (both_left (fit_entries bs g inner) (fit_groups gs more) f) (both_left (are_blocks bs) (are_groups gs) held))
      refl))
      (next_back (read_groups before more (lines_in left)) gs (lines_in rest) _ _ (groups_back gs more before rest w words.others (both_right (fit_entries bs g inner) (fit_groups gs more) f) (both_right (are_blocks bs) (are_groups gs) held)) refl)

  entries_back : (bs : BlockList) (g : PlanHead) (inner : PlanTree) (before rest : List ℕ) (at : ℕ) → at + count_of_blocks bs < 10 ^ 64 → is_word before ≡ true → is_word g.name ≡ true → items_have_words g.items ≡ true → groups_have_words inner ≡ true → data_have_words g.vars ≡ true → fit_entries bs g inner ≡ true → are_blocks bs ≡ true → repeated (count_of_blocks bs) at (entry_at before g (λ path. read_groups path inner)) (lines_in (entry_lines [] before at bs g inner ++ rest)) ≡ Ok (bs, lines_in rest)
  entries_back no_blocks g inner before rest at p w n ni ng nv f h = refl
  entries_back (block items gs vars bs) g inner before rest at p w n ni ng nv f h =
      let path = before_in before g at in
      let word = at_word before g at w n (omega arith) in
      let f1 = both_right (fit_items items g.items) _ f in
      let f2 = both_right (fit_groups gs inner) _ f1 in
      let h1 = both_right (are_items items) _ h in
      let h2 = both_right (are_groups gs) _ h1 in
      let later = entry_lines [] before (at + 1) bs g inner ++ rest in
      let others = lines_of_data path vars g.vars ++ later in
      let inside = group_lines [] path gs inner ++ others in
      let one : count_of_blocks (block items gs vars bs) ≡ suc (count_of_blocks bs) = omega arith in
      let read : ℕ → List (List ℕ) → Read Entry = entry_at before g (λ inner_path. read_groups inner_path inner) in
      ap (λ n. repeated n at read (lines_in (entry_lines [] before at (block items gs vars bs) g inner ++ rest))) one
      ∙ ap (λ text. repeated (suc (count_of_blocks bs)) at read (lines_in text)) (four (item_lines [] path items g.items) (group_lines [] path gs inner) (lines_of_data path vars g.vars) (entry_lines [] before (at + 1) bs g inner) rest)
      ∙ next_back (read at (lines_in (item_lines [] path items g.items ++ inside))) (record { items = items; groups = gs; vars = vars }) (lines_in later) _ _
      (next_back (read_each (read_item path) g.items (lines_in (item_lines [] path items g.items ++ inside))) items (lines_in inside) _ _ (items_back path items g.items inside word ni (both_left (fit_items items g.items) _ f) (both_left (are_items items) _ h))
      (next_back (read_groups path inner (lines_in inside)) gs (lines_in others) _ _ (groups_back gs inner path others word ng (both_left (fit_groups gs inner) _ f1) (both_left (are_groups gs) _ h1))
      (next_back (read_each (read_datum path) g.vars (lines_in others)) vars (lines_in later) _ _ (data_back path vars g.vars later word nv (counts_equal vars g.vars (both_left (fit_data vars g.vars) _ f2)) (both_left (are_data vars) _ h2))
      refl)))
      (next_back (repeated (count_of_blocks bs) (at + 1) read (lines_in later)) bs (lines_in rest) _ _
      (entries_back bs g inner before rest (at + 1) (omega arith) w n ni ng nv (both_right (fit_data vars g.vars) _ f2) (both_right (are_data vars) _ h2))
      refl)

-- ---- messages

found_holds : (P : MessagePlan → Type 0) (t : ℕ) (ms : List MessagePlan) (l : MessagePlan) → message_of t ms ≡ Some l → AllByRecursion P ms → P l
found_holds P t [] l e all = absurd (cc)
found_holds P t (m ∷ ms) l e all =
    let Q : Bool → Type 0 = λ b. (if b then Some m else message_of t ms) ≡ Some l → P l in
    elim (m.template == t) as Q [ true ↦ λ k. let same : m ≡ l = cc in subst P same all.0 | false ↦ λ k. found_holds P t ms l k all.1 ] e

named_back : (t : ℕ) (ms : List MessagePlan) (l : MessagePlan) → HaveOwnNames ms → message_of t ms ≡ Some l → named ms l.name ≡ Some l
named_back t [] l own e = absurd (cc)
named_back t (m ∷ ms) l own e =
    let Q : Bool → Type 0 = λ b. (if b then Some m else message_of t ms) ≡ Some l → named (m ∷ ms) l.name ≡ Some l in
    elim (m.template == t) as Q [
      | true ↦ λ k.
          let same : m ≡ l = cc in
          let P : MessagePlan → Type 0 = λ x. named (m ∷ ms) x.name ≡ Some x in
          subst P same (rw ((bytes_eq-Decides m.name m.name).1 refl) refl)
      | false ↦ λ k. other m.name l.name (found_holds (λ x. x.name ≢ m.name) t ms l k own.0) m ms l ∙ named_back t ms l own.1 k
    ] e
  where
    other : (a b : List ℕ) → b ≢ a → (m : MessagePlan) (ms : List MessagePlan) (l : MessagePlan) → (if bytes_eq a b then Some m else named ms b) ≡ named ms b
    other a b d m ms l =
        let P : Bool → Type 0 = λ v. bytes_eq a b ≡ v → (if v then Some m else named ms b) ≡ named ms b in
        elim (bytes_eq a b) as P [ true ↦ λ h. absurd (d (sym ((bytes_eq-Decides a b).0 h))) | false ↦ λ h. refl ] refl

five : (a b c d e : List ℕ) → a ++ b ++ c ++ d ++ e ≡ a ++ (b ++ (c ++ (d ++ e)))
five a b c d e = simp append_assoc

message_back : (schema : Plan) (m : Message) (l : MessagePlan) → HasWords schema → message_of m.template schema.messages ≡ Some l → fits_layout m l ≡ true → is_message m ≡ true → read_message schema.messages (lines_in (message_lines [] m (Some l))) ≡ Ok (m, [])
message_back schema m l words found f h =
    let template : l.template ≡ m.template = layout_found m.template schema.messages l found in
    let own : message_of l.template schema.messages ≡ Some l = ap (λ t. message_of t schema.messages) template ∙ found in
    let named_is : named schema.messages l.name ≡ Some l = named_back m.template schema.messages l words.apart found in
    let w : message_has_words l ≡ true = found_holds (λ x. IsTrue (message_has_words x)) m.template schema.messages l found words.words in
    let w1 = both_right (is_word l.name) _ w in
    let w2 = both_right (items_have_words l.root.items) _ w1 in
    let f1 = both_right (fit_items m.root.items l.root.items) _ f in
    let h1 = both_right (are_items m.root.items) _ h in
    let others = lines_of_data [] m.root.vars l.root.vars ++ end_line in
    let inside = group_lines [] [] m.root.groups l.root.groups ++ others in
    let body = item_lines [] [] m.root.items l.root.items ++ inside in
    let first : lines_in (message_line l.name ++ body) ≡ (codes "message " ++ l.name) ∷ lines_in body = ap lines_in (append_assoc (codes "message " ++ l.name) (10 ∷ []) body) ∙ line_back (codes "message " ++ l.name) body (both_left (is_word l.name) _ w) in
    let line_is : layout_on schema.messages (codes "message " ++ l.name) ≡ Some l =
    ap (λ o. also (also o (named schema.messages)) (λ x. message_of x.template schema.messages)) (behind_joined (codes "message ") l.name)
    ∙ ap (λ o. also o (λ x. message_of x.template schema.messages)) named_is
    ∙ own in
    ap (λ text. read_message schema.messages (lines_in text)) (five (message_line l.name) (item_lines [] [] m.root.items l.root.items) (group_lines [] [] m.root.groups l.root.groups) (lines_of_data [] m.root.vars l.root.vars) end_line)
    ∙ next_back (read_line (layout_on schema.messages) (lines_in (message_line l.name ++ body))) l (lines_in body) _ _
    (ap (read_line (layout_on schema.messages)) first ∙ ap (λ o. taken (length ((codes "message " ++ l.name) ∷ lines_in body)) o (lines_in body)) line_is)
    (next_back (read_elements [] l.root.items (read_groups [] l.root.groups) l.root.vars (lines_in body)) (record { items = m.root.items; groups = m.root.groups; vars = m.root.vars }) (lines_in end_line) _ _
    (next_back (read_each (read_item []) l.root.items (lines_in body)) m.root.items (lines_in inside) _ _ (items_back [] m.root.items l.root.items inside refl (both_left (items_have_words l.root.items) _ w1) (both_left (fit_items m.root.items l.root.items) _ f) (both_left (are_items m.root.items) _ h))
    (next_back (read_groups [] l.root.groups (lines_in inside)) m.root.groups (lines_in others) _ _ (groups_back m.root.groups l.root.groups [] others refl (both_left (groups_have_words l.root.groups) _ w2) (both_left (fit_groups m.root.groups l.root.groups) _ f1) (both_left (are_groups m.root.groups) _ h1))
    (next_back (read_each (read_datum []) l.root.vars (lines_in others)) m.root.vars (lines_in end_line) _ _ (data_back [] m.root.vars l.root.vars end_line refl (both_right (groups_have_words l.root.groups) _ w2) (counts_equal m.root.vars l.root.vars (both_right (fit_groups m.root.groups l.root.groups) _ f1)) (both_right (are_groups m.root.groups) _ h1))
    refl)))
    (ap (λ t. Ok (record m { template = t }, [])) template))

-- the message of the lines that are printed is the one that was printed
pub printed_back : (schema : Plan) (m : Message) → Fits schema m → HasWords schema → is_message m ≡ true → message_of_text schema (lines_of_message schema m) ≡ Ok m
printed_back schema m fit words h =
    let text : lines_of_message schema m ≡ message_lines [] m (Some fit.layout) = ap (message_lines [] m) (sym fit.found) in
    let read : read_message schema.messages (lines_in (lines_of_message schema m)) ≡ Ok (m, []) = ap (λ t. read_message schema.messages (lines_in t)) text ∙ message_back schema m fit.layout words (sym fit.found) fit.fits h in
    rw read refl
