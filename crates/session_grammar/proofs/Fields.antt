-- The fields of a row of the session messages and the items of a block of the session's schema: the same values at the same places.
use Rattle.std.proofs.Common.{◌≡◌, ℕ, ◌+◌, ◌-◌, ◌≤◌, ◌^◌, ℤ, pos, Bool, true, false, not, IsTrue, List, [], ◌∷◌, length, take, drop, map, sum_by, Some, None, if◌then◌else◌, refl, sym, ap, ◌∙◌, subst, arith}
use Rattle.std.specs.Prelude.{◌==◌}
use Rattle.std.specs.Ordering.{int_eq}
use Rattle.std.specs.List.{AllByRecursion}
use Rattle.std.proofs.lemmas.List.Sums.{sum_by-cons}
use Rattle.std.proofs.lemmas.Bool.{false≢true}
use Rattle.std.proofs.lemmas.Bool.Decides.{nat_tests}
use Rattle.std.specs.Int.{w64, from_le_bytes}
use Rattle.sbe_prim.specs.declared.Primitive.TheVariants.{UInt8, UInt32, UInt64}
use Rattle.sbe_prim.specs.declared.Order.TheVariants.{Little}
use Rattle.sbe_value.specs.declared.item.Item.TheVariants.{Num, Null, Raw, Absent}
use Rattle.schema_types.specs.declared.types.Presence.{Presence}
use Rattle.schema_types.specs.declared.types.Presence.TheVariants.{Required, Optional}
use Rattle.sbe_layout.specs.declared.items.ItemKind.{ItemKind}
use Rattle.sbe_layout.specs.declared.items.ItemKind.TheVariants.{Number}
use Rattle.sbe_layout.specs.declared.items.ItemPlan.{ItemPlan}
use Rattle.sbe_layout.specs.declared.items.Mark.{Mark}
use Rattle.sbe_layout.specs.Plans.{item}
use Rattle.sbe_grammar.specs.Values.{is_in, number_or_null, item_in, items_in}
use Rattle.sbe_grammar.specs.Spelling.{AllWithin}
use Rattle.fixp_msgs.specs.declared.messages.Expected.{Expected}
use Rattle.fixp_msgs.specs.declared.messages.Expected.TheVariants as expects
use Rattle.fixp_msgs.specs.Table.{Field, size_of, null}
use Rattle.fixp_msgs.specs.Grammar.{Holds, HoldsAll, unless_null, expected_at}
use Rattle.fixp_msgs.proofs.Rows.{size-expected}
use Rattle.session_grammar.specs.SessionTrees.{item_of, optional_item, expected_item}
use Rattle.session_grammar.proofs.Cutting.{number_1, number_4, number_8, all_there}

-- ---- what the session's schema makes of a field

abbrev kind_of : Field → ItemKind
kind_of (Field.identifier _) = Number UInt8 16 None None None
kind_of (Field.u8 _) = Number UInt8 1 None None (Some (pos (2 ^ 8 - 1)))
kind_of (Field.u32 _) = Number UInt32 1 None None (Some (pos (2 ^ 32 - 1)))
kind_of (Field.u64 _) = Number UInt64 1 None None (Some (pos (2 ^ 64 - 1)))
kind_of (Field.optional _) = Number UInt64 1 (Some (pos (2 ^ 64 - 1))) None (Some (pos (2 ^ 64 - 2)))
kind_of (Field.expected _) = Number UInt64 1 (Some (pos (2 ^ 64 - 1))) None (Some (pos (2 ^ 64 - 2)))

abbrev presence_of : Field → Presence
presence_of (Field.identifier _) = Required
presence_of (Field.u8 _) = Required
presence_of (Field.u32 _) = Required
presence_of (Field.u64 _) = Required
presence_of (Field.optional _) = Optional
presence_of (Field.expected _) = Optional

-- how many bytes a field takes in a block that has it, and the version that it came with
abbrev width_of : Field → ℕ
width_of (Field.identifier _) = 16
width_of (Field.u8 _) = 1
width_of (Field.u32 _) = 4
width_of (Field.u64 _) = 8
width_of (Field.optional _) = 8
width_of (Field.expected _) = 8

abbrev since_of : Field → ℤ
since_of (Field.identifier _) = pos 0
since_of (Field.u8 _) = pos 0
since_of (Field.u32 _) = pos 0
since_of (Field.u64 _) = pos 0
since_of (Field.optional _) = pos 0
since_of (Field.expected _) = pos 1

abbrev placed : List ℕ → ℕ → Field → ItemPlan
placed name place f = item name place (width_of f) (since_of f) (presence_of f) (kind_of f)

-- the items are those of the fields from a place on, one behind another
abbrev pub ItemsFit : ℕ → List Field → List ItemPlan → Type 0
ItemsFit place [] [] = Unit {0}
ItemsFit place [] (p ∷ ps) = ⊥
ItemsFit place (f ∷ fs) [] = ⊥
ItemsFit place (f ∷ fs) (p ∷ ps) = (p ≡ placed p.name place f) × ItemsFit (place + width_of f) fs ps

-- the marks are the ends of the fields
abbrev pub MarksFit : ℕ → List Field → List Mark → Type 0
MarksFit place [] [] = Unit {0}
MarksFit place [] (m ∷ ms) = ⊥
MarksFit place (f ∷ fs) [] = ⊥
MarksFit place (f ∷ fs) (m ∷ ms) = (m ≡ record { since = since_of f; end = place + width_of f }) × MarksFit (place + width_of f) fs ms

-- each field but the last takes its bytes at every version
abbrev pub Lasting : List Field → Type 0
Lasting [] = Unit {0}
Lasting (f ∷ []) = Unit {0}
Lasting (f ∷ g ∷ fs) = (width_of f ≡ size_of f) × Lasting (g ∷ fs)

-- a field takes the bytes that it has at a version
abbrev pub Timely : ℕ → Field → Type 0
Timely version (Field.identifier _) = Unit {0}
Timely version (Field.u8 _) = Unit {0}
Timely version (Field.u32 _) = Unit {0}
Timely version (Field.u64 _) = Unit {0}
Timely version (Field.optional _) = Unit {0}
Timely version (Field.expected e) = size_of (Field.expected e) ≡ (if version == 0 then 0 else 8)

timely_field : (version place : ℕ) (block : List ℕ) (f : Field) → Holds version block place f → Timely version f
timely_field version place block (Field.identifier _) h = tt
timely_field version place block (Field.u8 _) h = tt
timely_field version place block (Field.u32 _) h = tt
timely_field version place block (Field.u64 _) h = tt
timely_field version place block (Field.optional _) h = tt
timely_field version place block (Field.expected e) h =
    ap (λ (x : Expected). size_of (Field.expected x)) h ∙ size-expected version (from_le_bytes w64 (drop place block))

pub timely : (version place : ℕ) (block : List ℕ) (fs : List Field) → HoldsAll version block place fs → AllByRecursion (Timely version) fs
timely version place block [] holds = tt
timely version place block (f ∷ fs) (h, hs) = (timely_field version place block f h, timely version (place + size_of f) block fs hs)

-- ---- values

-- what came with version 0 is in every version
pub in_every : (version : ℕ) → is_in version (pos 0) ≡ true
in_every version = grind (arith, nat_tests)

pub if_true : {A : Type 0} (b : Bool) (x y : A) → b ≡ true → (if b then x else y) ≡ x
if_true true x y e = refl
if_true false x y e = absurd (false≢true e)

-- a number that may be missing
optional_by : (b : Bool) (n : ℕ) → optional_item (if b then None else Some n) ≡ (if b then Null else Num (pos n))
optional_by true n = refl
optional_by false n = refl

same_null : (n : ℕ) → (n == null) ≡ int_eq (pos n) (pos (2 ^ 64 - 1))
same_null n = grind (arith, nat_tests)

optional_is : (n : ℕ) → optional_item (unless_null n) ≡ number_or_null Optional (pos (2 ^ 64 - 1)) (pos n)
optional_is n = rw (sym (same_null n)) (optional_by (n == null) n)

same_number : (a b : ℕ) → a ≡ b → (a == b) ≡ true
same_number a b e = grind (arith, nat_tests)

if_false : {A : Type 0} (b : Bool) (x y : A) → b ≡ false → (if b then x else y) ≡ y
if_false true x y e = absurd (false≢true (sym e))
if_false false x y e = refl

-- what came with version 1 is in every version but 0
later : (version : ℕ) → is_in version (pos 1) ≡ not (version == 0)
later version = grind (arith, nat_tests)

-- an expected number that is there, as an item
told_by : (b : Bool) (n : ℕ) → expected_item (if b then expects.Null else expects.Number n) ≡ (if b then Null else Num (pos n))
told_by true n = refl
told_by false n = refl

told_is : (n : ℕ) → expected_item (if n == null then expects.Null else expects.Number n) ≡ number_or_null Optional (pos (2 ^ 64 - 1)) (pos n)
told_is n = rw (sym (same_null n)) (told_by (n == null) n)

expected_value : (version place : ℕ) (block name : List ℕ) (e : Expected) (old : Bool) → (version == 0) ≡ old → e ≡ expected_at version (from_le_bytes w64 (drop place block))
    → place + size_of (Field.expected e) ≤ length block → item_of (Field.expected e) ≡ item_in Little version block (placed name place (Field.expected e))
expected_value version place block name e true old is long =
    ap expected_item (is ∙ if_true (version == 0) expects.Absent _ old) ∙ sym (if_false (is_in version (pos 1)) _ Absent (later version ∙ ap not old))
expected_value version place block name e false old is long =
    let n = from_le_bytes w64 (drop place block) in
    let size : size_of (Field.expected e) ≡ 8 = ap (λ (x : Expected). size_of (Field.expected x)) is ∙ size-expected version n ∙ if_false (version == 0) 0 8 old in
    ap expected_item (is ∙ if_false (version == 0) expects.Absent _ old)
    ∙ ap (λ (k : ℕ). expected_item (if k == null then expects.Null else expects.Number k)) (sym (number_8 (drop place block)))
    ∙ told_is (from_le_bytes w64 (take 8 (drop place block)))
    ∙ sym (if_true (length (take 8 (drop place block)) == 8) _ (Raw (take 8 (drop place block))) (same_number _ _ (all_there 8 place block (omega (arith, long, size)))))
    ∙ sym (if_true (is_in version (pos 1)) _ Absent (later version ∙ ap not old))

-- a field holds the value of its item
field_value : (version place : ℕ) (block name : List ℕ) (f : Field) → Holds version block place f → place + size_of f ≤ length block → item_of f ≡ item_in Little version block (placed name place f)
field_value version place block name (Field.identifier id) h long = ap Raw h ∙ sym (if_true (is_in version (pos 0)) _ Absent (in_every version))
field_value version place block name (Field.u8 n) h long =
    ap (λ (k : ℕ). Num (pos k)) (h ∙ sym (number_1 (drop place block)))
    ∙ sym (if_true (length (take 1 (drop place block)) == 1) _ (Raw (take 1 (drop place block))) (same_number _ _ (all_there 1 place block long)))
    ∙ sym (if_true (is_in version (pos 0)) _ Absent (in_every version))
field_value version place block name (Field.u32 n) h long =
    ap (λ (k : ℕ). Num (pos k)) (h ∙ sym (number_4 (drop place block)))
    ∙ sym (if_true (length (take 4 (drop place block)) == 4) _ (Raw (take 4 (drop place block))) (same_number _ _ (all_there 4 place block long)))
    ∙ sym (if_true (is_in version (pos 0)) _ Absent (in_every version))
field_value version place block name (Field.u64 n) h long =
    ap (λ (k : ℕ). Num (pos k)) (h ∙ sym (number_8 (drop place block)))
    ∙ sym (if_true (length (take 8 (drop place block)) == 8) _ (Raw (take 8 (drop place block))) (same_number _ _ (all_there 8 place block long)))
    ∙ sym (if_true (is_in version (pos 0)) _ Absent (in_every version))
field_value version place block name (Field.optional n) h long =
    ap optional_item (h ∙ ap unless_null (sym (number_8 (drop place block))))
    ∙ optional_is (from_le_bytes w64 (take 8 (drop place block)))
    ∙ sym (if_true (length (take 8 (drop place block)) == 8) _ (Raw (take 8 (drop place block))) (same_number _ _ (all_there 8 place block long)))
    ∙ sym (if_true (is_in version (pos 0)) _ Absent (in_every version))
field_value version place block name (Field.expected e) h long = expected_value version place block name e (version == 0) refl h long

-- the values of a row's fields are those of its items
pub values_are : (version place : ℕ) (block : List ℕ) (fs : List Field) (ps : List ItemPlan) → Lasting fs → ItemsFit place fs ps → HoldsAll version block place fs
    → place + sum_by size_of fs ≤ length block → map item_of fs ≡ items_in Little version block ps
values_are version place block [] [] lasts fit holds long = refl
values_are version place block [] (p ∷ ps) lasts fit holds long = absurd fit
values_are version place block (f ∷ fs) [] lasts fit holds long = absurd fit
values_are version place block (f ∷ []) (p ∷ q ∷ ps) lasts (here, more) holds long = absurd more
values_are version place block (f ∷ []) (p ∷ []) lasts (here, _) (h, _) long =
    let first : item_of f ≡ item_in Little version block p = field_value version place block p.name f h (omega (arith, long, sum_by-cons size_of f [])) ∙ ap (item_in Little version block) (sym here) in
    λ i. first i ∷ []
values_are version place block (f ∷ g ∷ fs) (p ∷ ps) (same, lasts) (here, more) (h, hs) long =
    let first : item_of f ≡ item_in Little version block p = field_value version place block p.name f h (omega (arith, long, sum_by-cons size_of f (g ∷ fs))) ∙ ap (item_in Little version block) (sym here) in
    let rest : map item_of (g ∷ fs) ≡ items_in Little version block ps =
    values_are version (place + size_of f) block (g ∷ fs) ps lasts (subst (λ (n : ℕ). ItemsFit (place + n) (g ∷ fs) ps) same more) hs
    (omega (arith, long, sum_by-cons size_of f (g ∷ fs))) in
    λ i. first i ∷ rest i

-- ---- ends

-- where the end of a field stands in a block that has the field at this version
end_there : (version place : ℕ) (f : Field) → Timely version f → IsTrue (is_in version (since_of f)) → width_of f ≡ size_of f
end_there version place (Field.identifier _) time there = refl
end_there version place (Field.u8 _) time there = refl
end_there version place (Field.u32 _) time there = refl
end_there version place (Field.u64 _) time there = refl
end_there version place (Field.optional _) time there = refl
end_there version place (Field.expected e) time there = by_version (version == 0) refl
  where
    by_version : (old : Bool) → (version == 0) ≡ old → 8 ≡ size_of (Field.expected e)
    by_version true old = absurd (false≢true (sym (later version ∙ ap not old) ∙ there))
    by_version false old = sym (time ∙ if_false (version == 0) 0 8 old)

-- a field that a version does not have takes no bytes of it
nothing_there : (version : ℕ) (f : Field) → Timely version f → is_in version (since_of f) ≡ false → size_of f ≡ 0
nothing_there version (Field.identifier _) time lacks = absurd (false≢true (sym lacks ∙ in_every version))
nothing_there version (Field.u8 _) time lacks = absurd (false≢true (sym lacks ∙ in_every version))
nothing_there version (Field.u32 _) time lacks = absurd (false≢true (sym lacks ∙ in_every version))
nothing_there version (Field.u64 _) time lacks = absurd (false≢true (sym lacks ∙ in_every version))
nothing_there version (Field.optional _) time lacks = absurd (false≢true (sym lacks ∙ in_every version))
nothing_there version (Field.expected e) time lacks = by_version (version == 0) refl
  where
    by_version : (old : Bool) → (version == 0) ≡ old → size_of (Field.expected e) ≡ 0
    by_version true old = time ∙ if_true (version == 0) 0 8 old
    by_version false old = absurd (false≢true (sym lacks ∙ later version ∙ ap not old))

-- a block that is as long as its fields has them all within it
pub all_within : (version size place : ℕ) (fs : List Field) (ms : List Mark) → Lasting fs → AllByRecursion (Timely version) fs → MarksFit place fs ms
    → place + sum_by size_of fs ≤ size → AllWithin version size ms
all_within version size place [] [] lasts times fit long = tt
all_within version size place [] (m ∷ ms) lasts times fit long = absurd fit
all_within version size place (f ∷ fs) [] lasts times fit long = absurd fit
all_within version size place (f ∷ []) (m ∷ n ∷ ms) lasts times (here, more) long = absurd more
all_within version size place (f ∷ []) (m ∷ []) lasts (time, _) (here, _) long = (
  λ there. omega (arith, ap (λ (x : Mark). x.end) here, end_there version place f time (subst (λ (x : Mark). IsTrue (is_in version x.since)) here there), long, sum_by-cons size_of f []),
  tt,
)
all_within version size place (f ∷ g ∷ fs) (m ∷ ms) (same, lasts) (time, times) (here, more) long = (
  λ there. omega (arith, ap (λ (x : Mark). x.end) here, same, long, sum_by-cons size_of f (g ∷ fs)),
  all_within version size (place + size_of f) (g ∷ fs) ms lasts times (subst (λ (n : ℕ). MarksFit (place + n) (g ∷ fs) ms) same more)
      (omega (arith, long, sum_by-cons size_of f (g ∷ fs))),
)

-- a block that has a field within it, where its version has the field, is as long as to its end
first_covered : (version size place : ℕ) (f : Field) (m : Mark) → Timely version f → m ≡ record { since = since_of f; end = place + width_of f } → place ≤ size
    → (IsTrue (is_in version m.since) → m.end ≤ size) → place + size_of f ≤ size
first_covered version size place f m time here start ends = by_presence (is_in version (since_of f)) refl
  where
    by_presence : (b : Bool) → is_in version (since_of f) ≡ b → place + size_of f ≤ size
    by_presence true there =
        omega (arith, ap (λ (x : Mark). x.end) here, end_there version place f time there, ends (subst (λ (x : Mark). IsTrue (is_in version x.since)) (sym here) there))
    by_presence false lacks = omega (arith, start, nothing_there version f time lacks)

-- and a block that has all of its fields within it is as long as they are
pub covered : (version size place : ℕ) (fs : List Field) (ms : List Mark) → Lasting fs → AllByRecursion (Timely version) fs → MarksFit place fs ms → place ≤ size
    → AllWithin version size ms → place + sum_by size_of fs ≤ size
covered version size place [] [] lasts times fit start within = omega (arith, start)
covered version size place [] (m ∷ ms) lasts times fit start within = absurd fit
covered version size place (f ∷ fs) [] lasts times fit start within = absurd fit
covered version size place (f ∷ []) (m ∷ ms) lasts (time, _) (here, _) start (ends, _) =
    omega (arith, sum_by-cons size_of f [], first_covered version size place f m time here start ends)
covered version size place (f ∷ g ∷ fs) (m ∷ ms) (same, lasts) (time, times) (here, more) start (ends, within) =
    omega (
      arith,
      sum_by-cons size_of f (g ∷ fs),
      covered version size (place + size_of f) (g ∷ fs) ms lasts times
          (subst (λ (n : ℕ). MarksFit (place + n) (g ∷ fs) ms) same more) (first_covered version size place f m time here start ends) within,
    )
