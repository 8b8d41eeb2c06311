-- The lines of a message that is read: each is of an element, whose value is one that the element takes.
use Rattle.std.proofs.Common.{◌≡◌, ℕ, zero, suc, ◌+◌, ◌-◌, ◌^◌, ◌<◌, ◌≤◌, Bool, true, false, List, [], ◌∷◌, ◌++◌, length, take, drop, refl, ap, sym, ◌∙◌, subst, arith, append_assoc}
use Rattle.std.specs.Prelude.{⊤, Option, Some, None, Ok, Err, codes, nat_le, if◌then◌else◌}
use Rattle.std.specs.List.{AllByRecursion}
use Rattle.std.specs.Str.{bytes_eq}
use Rattle.std.proofs.lemmas.List.{take-append-drop}
use Rattle.std.proofs.lemmas.Slice.Eq.{bytes_eq-Decides}
use Rattle.sbe_value.specs.declared.item.Item as value_item
use Rattle.sbe_value.specs.declared.datum.Datum as value_datum
use Rattle.sbe_value.specs.Trees.{GroupList}
use Rattle.schema_types.specs.declared.types.Presence.{Presence}
use Rattle.sbe_layout.specs.declared.items.DataPlan.{DataPlan}
use Rattle.sbe_layout.specs.declared.items.ItemKind.{ItemKind}
use Rattle.sbe_layout.specs.declared.items.ItemPlan.{ItemPlan}
use Rattle.sbe_layout.specs.Trees.{PlanHead}
use Rattle.sbe_grammar.specs.Fits.{form_by}
use Rattle.sbe_grammar.specs.Reading.{Entry}
use Rattle.sbe_text.specs.declared.token.Count.{Count}
use Rattle.sbe_text.specs.declared.token.Count.TheVariants as count
use Rattle.sbe_text.specs.Read.{Read, next, taken, read_each}
use Rattle.sbe_text.specs.Tokens.{also, behind, value_on, value_of, datum_of, count_of, natural_of, held}
use Rattle.sbe_text.proofs.Texts.{at_most_of}
use Rattle.std.specs.Option.{option_map}
use Rattle.sbe_text.specs.Reading.{read_element, read_item, read_datum, read_elements, repeated, entry_at, read_counted}
use Rattle.text_names.specs.declared.path.Meaning.{Meaning}
use Rattle.text_names.specs.declared.path.Meaning.TheVariants as meaning

-- ---- what stands in front

pub behind_is : (front bytes back : List ℕ) → behind front bytes ≡ Some back → bytes ≡ front ++ back
behind_is front bytes back e = by_test (bytes_eq (take (length front) bytes) front) refl e
  where
    by_test : (t : Bool) → bytes_eq (take (length front) bytes) front ≡ t → (if t then Some (drop (length front) bytes) else None) ≡ Some back → bytes ≡ front ++ back
    by_test true h e =
        let same : take (length front) bytes ≡ front = (bytes_eq-Decides (take (length front) bytes) front).0 h in
        let rest : drop (length front) bytes ≡ back = cc in
        sym (take-append-drop (length front) bytes) ∙ ap (λ (xs : List ℕ). xs ++ drop (length front) bytes) same ∙ ap (λ (xs : List ℕ). front ++ xs) rest
    by_test false h e = absurd (cc)

pub value_is : (before name line value : List ℕ) → value_on before name line ≡ Some value → line ≡ (before ++ name) ++ codes " = " ++ value
value_is before name line value e = outer (behind before line) refl e
  where
    inner : (own : List ℕ) → line ≡ before ++ own → (o : Option (List ℕ)) → behind name own ≡ o → also o (behind (codes " = ")) ≡ Some value → line ≡ (before ++ name) ++ codes " = " ++ value
    inner own h None f e = absurd (cc)
    inner own h (Some rest) f e =
        h ∙ ap (λ (xs : List ℕ). before ++ xs) (behind_is name own rest f) ∙ ap (λ (xs : List ℕ). before ++ (name ++ xs)) (behind_is (codes " = ") rest value e) ∙ simp append_assoc refl

    outer : (o : Option (List ℕ)) → behind before line ≡ o → also (also o (behind name)) (behind (codes " = ")) ≡ Some value → line ≡ (before ++ name) ++ codes " = " ++ value
    outer None f e = absurd (cc)
    outer (Some own) f e = inner own (behind_is before line own f) (behind name own) refl e

-- a count is below 2^127
count_small : (value : List ℕ) (k : ℕ) → count_of value ≡ Some (count.Entries k) → 0 + k ≤ 2 ^ 127
count_small value k e = by_absent (bytes_eq value (codes "absent")) e
  where
    by_held : (n : ℕ) (t : Bool) → nat_le n (2 ^ 127 - 1) ≡ t → option_map count.Entries (if t then Some n else None) ≡ Some (count.Entries k) → 0 + k ≤ 2 ^ 127
    by_held n true h e = let same : n ≡ k = cc in let small = at_most_of n (2 ^ 127 - 1) h in omega arith
    by_held n false h e = absurd (cc)

    by_natural : (o : Option ℕ) → option_map count.Entries (also o held) ≡ Some (count.Entries k) → 0 + k ≤ 2 ^ 127
    by_natural None e = absurd (cc)
    by_natural (Some n) e = by_held n (nat_le n (2 ^ 127 - 1)) refl e

    by_absent : (t : Bool) → (if t then Some count.Absent else option_map count.Entries (also (natural_of value) held)) ≡ Some (count.Entries k) → 0 + k ≤ 2 ^ 127
    by_absent true e = absurd (cc)
    by_absent false e = by_natural (natural_of value) e

-- ---- lines of which each is so

pub record Front (P : List ℕ → Type 0) (ls rest : List (List ℕ)) : Type 0 where
  pub front : List (List ℕ)
  pub split : ls ≡ front ++ rest
  pub each : AllByRecursion P front

abbrev pub Passes : {A : Type 0} → (List ℕ → Type 0) → List (List ℕ) → Read A → Type 0
Passes P ls (Ok read) = Front P ls read.1
Passes P ls (Err left) = ⊤

all_append : (P : List ℕ → Type 0) (xs ys : List (List ℕ)) → AllByRecursion P xs → AllByRecursion P ys → AllByRecursion P (xs ++ ys)
all_append P [] ys a b = b
all_append P (x ∷ xs) ys a b = (a.0, all_append P xs ys a.1 b)

pub here : (P : List ℕ → Type 0) (ls : List (List ℕ)) → Front P ls ls
here P ls = record { front = []; split = refl; each = tt }

pub front_more : (P : List ℕ → Type 0) (ls mid rest : List (List ℕ)) → Front P ls mid → Front P mid rest → Front P ls rest
front_more P ls mid rest a b = record {
  front = a.front ++ b.front;
  split = a.split ∙ ap (λ (m : List (List ℕ)). a.front ++ m) b.split ∙ sym (append_assoc a.front b.front rest);
  each = all_append P a.front b.front a.each b.each;
}

behind_front : {A : Type 0} (P : List ℕ → Type 0) (ls mid : List (List ℕ)) (r : Read A) → Front P ls mid → Passes P mid r → Passes P ls r
behind_front P ls mid (Ok read) a b = front_more P ls mid read.1 a b
behind_front P ls mid (Err left) a b = tt

pub next_passes : {A B : Type 0} (P : List ℕ → Type 0) (ls : List (List ℕ)) (r : Read A) (more : A → List (List ℕ) → Read B) → Passes P ls r → ((x : A) (rest : List (List ℕ)) → Passes P rest (more x rest)) → Passes P ls (next r more)
next_passes P ls (Ok read) more a each = behind_front P ls read.1 (more read.0 read.1) a (each read.0 read.1)
next_passes P ls (Err left) more a each = tt

pub element_passes : {A : Type 0} (P : List ℕ → Type 0) (before name : List ℕ) (made : List ℕ → Option A)
    → ((value : List ℕ) (x : A) → made value ≡ Some x → P ((before ++ name) ++ codes " = " ++ value)) → (ls : List (List ℕ)) → Passes P ls (read_element before name made ls)
element_passes P before name made judged [] = tt
element_passes P before name made judged (line ∷ rest) = by_value (value_on before name line) refl
  where
    by_made : (value : List ℕ) → line ≡ (before ++ name) ++ codes " = " ++ value → (o : Option _) → made value ≡ o → Passes P (line ∷ rest) (taken (length (line ∷ rest)) o rest)
    by_made value is None e = tt
    by_made value is (Some x) e = record { front = line ∷ []; split = refl; each = (subst P (sym is) (judged value x e), tt) }

    by_value : (o : Option (List ℕ)) → value_on before name line ≡ o → Passes P (line ∷ rest) (next (taken (length (line ∷ rest)) o rest) (λ value behind. taken (length (line ∷ rest)) (made value) behind))
    by_value None e = tt
    by_value (Some value) e = by_made value (value_is before name line value e) (made value) refl

each_passes : {Q A : Type 0} (P : List ℕ → Type 0) (one : Q → List (List ℕ) → Read A) (ps : List Q) → AllByRecursion (λ p. (ls : List (List ℕ)) → Passes P ls (one p ls)) ps → (ls : List (List ℕ)) → Passes P ls (read_each one ps ls)
each_passes P one [] all ls = here P ls
each_passes P one (p ∷ ps) all ls =
    next_passes P ls (one p ls) _ (all.0 ls) (λ x rest. next_passes P rest (read_each one ps rest) _ (each_passes P one ps all.1 rest) (λ xs end. here P end))

pub elements_pass : (P : List ℕ → Type 0) (before : List ℕ) (plans : List ItemPlan) (inner : List (List ℕ) → Read GroupList) (data_plans : List DataPlan)
    → AllByRecursion (λ p. (ls : List (List ℕ)) → Passes P ls (read_item before p ls)) plans → ((ls : List (List ℕ)) → Passes P ls (inner ls))
    → AllByRecursion (λ d. (ls : List (List ℕ)) → Passes P ls (read_datum before d ls)) data_plans → (ls : List (List ℕ)) → Passes P ls (read_elements before plans inner data_plans ls)
elements_pass P before plans inner data_plans items groups vars ls =
    next_passes P ls (read_each (read_item before) plans ls) _ (each_passes P (read_item before) plans items ls)
    (λ items after. next_passes P after (inner after) _ (groups after)
    (λ groups behind. next_passes P behind (read_each (read_datum before) data_plans behind) _ (each_passes P (read_datum before) data_plans vars behind) (λ vars rest. here P rest)))

pub first_same : {A : Type 0} (p q : A × List (List ℕ)) → p ≡ q → p.0 ≡ q.0
first_same {A = A} p q e = ap (λ (r : A × List (List ℕ)). r.0) e

pub second_same : {A : Type 0} (p q : A × List (List ℕ)) → p ≡ q → p.1 ≡ q.1
second_same {A = A} p q e = ap (λ (r : A × List (List ℕ)). r.1) e

-- the same, where something is known of what is read first
pub known_passes : {A B : Type 0} (P : List ℕ → Type 0) (ls : List (List ℕ)) (r : Read A) (more : A → List (List ℕ) → Read B) → Passes P ls r → ((x : A) (rest : List (List ℕ)) → r ≡ Ok (x, rest) → Passes P rest (more x rest)) → Passes P ls (next r more)
known_passes P ls (Ok read) more a each = behind_front P ls read.1 (more read.0 read.1) a (each read.0 read.1 refl)
known_passes P ls (Err left) more a each = tt

pub record Made {A : Type 0} (made : List ℕ → Option A) (x : A) : Type 0 where
  pub value : List ℕ
  pub is : made value ≡ Some x

pub element_made : {A : Type 0} (before name : List ℕ) (made : List ℕ → Option A) (ls : List (List ℕ)) (x : A) (rest : List (List ℕ)) → read_element before name made ls ≡ Ok (x, rest) → Made made x
element_made before name made [] x rest e = absurd (cc)
element_made before name made (line ∷ more) x rest e = by_value (value_on before name line) e
  where
    by_made : (value : List ℕ) (o : Option _) → made value ≡ o → taken (length (line ∷ more)) o more ≡ Ok (x, rest) → Made made x
    by_made value None f e = absurd (cc)
    by_made value (Some y) f e = let pair : (y, more) ≡ (x, rest) = cc in record { value = value; is = f ∙ ap (λ z. Some z) (first_same (y, more) (x, rest) pair) }

    by_value : (o : Option (List ℕ)) → next (taken (length (line ∷ more)) o more) (λ value rest. taken (length (line ∷ more)) (made value) rest) ≡ Ok (x, rest) → Made made x
    by_value None e = absurd (cc)
    by_value (Some value) e = by_made value (made value) refl e

repeated_passes : (P : List ℕ → Type 0) (read : ℕ → List (List ℕ) → Read Entry) (most : ℕ) → ((at : ℕ) → at < most → (ls : List (List ℕ)) → Passes P ls (read at ls))
    → (k at : ℕ) → at + k ≤ most → (ls : List (List ℕ)) → Passes P ls (repeated k at read ls)
repeated_passes P read most each zero at within ls = here P ls
repeated_passes P read most each (suc k) at within ls =
    next_passes P ls (read at ls) _ (each at (omega arith) ls)
    (λ e rest. next_passes P rest (repeated k (at + 1) read rest) _ (repeated_passes P read most each k (at + 1) (omega arith) rest) (λ es end. here P end))

pub counted_passes : (P : List ℕ → Type 0) (before : List ℕ) (g : PlanHead) (inner : List ℕ → List (List ℕ) → Read GroupList)
    → ((at : ℕ) → at < 2 ^ 127 → (ls : List (List ℕ)) → Passes P ls (entry_at before g inner at ls)) → (told : Count) → Made count_of told → (ls : List (List ℕ)) → Passes P ls (read_counted before g inner told ls)
counted_passes P before g inner each count.Absent made ls = here P ls
counted_passes P before g inner each (count.Entries k) made ls =
    next_passes P ls (repeated k 0 (entry_at before g inner) ls) _ (repeated_passes P (entry_at before g inner) (2 ^ 127) each k 0 (count_small made.value k made.is) ls) (λ bs rest. here P rest)

-- ---- values that elements take

pub record TakesItem (kind : ItemKind) (value : List ℕ) : Type 0 where
  pub presence : Presence
  pub size : ℕ
  pub item : value_item.Item
  pub is : value_of (form_by kind presence size) value ≡ Some item

pub record TakesDatum (value : List ℕ) : Type 0 where
  pub datum : value_datum.Datum
  pub is : datum_of value ≡ Some datum

pub record TakesCount (value : List ℕ) : Type 0 where
  pub told : Count
  pub is : count_of value ≡ Some told

abbrev pub Takes : Meaning → List ℕ → Type 0
Takes (meaning.Item kind) value = TakesItem kind value
Takes meaning.Datum value = TakesDatum value
Takes meaning.Other value = TakesCount value
