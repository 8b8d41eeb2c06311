-- The laws of values and bits: what the tests tell.
use Rattle.std.proofs.Common.{◌≡◌, ℕ, ℤ, pos, ◌*◌, ◌≤◌, ◌⊎◌, inl, inr, ◌↔◌, Bool, true, false, Option, Some, None, List, ◌∷◌, ◌++◌, sym, ap, subst, ◌∙◌}
use Rattle.std.proofs.lemmas.Bool.{false≢true, ltb-false, le-ltb}
use Rattle.std.specs.Ordering.{int_cmp, is_eq}
use Rattle.std.specs.Prelude.{nat_lt}
use Rattle.std.specs.Cmp.{Equal-is, tied_itself, int_cmp_total}
use Rattle.std.specs.FinSet as set
use Rattle.sbe_prim.specs.Primitives.{size_of, least_of, greatest_of, lies_within}
use Rattle.schema_types.specs.declared.schema.Schema.{Schema}
use Rattle.sbe_schema.specs.Names.{Numbers}
use Rattle.sbe_schema.specs.Places.{Place, Table}
use Rattle.sbe_schema.specs.Kinds.{is_bad_enum, is_bad_set}
use Rattle.sbe_schema.specs.Walk.{walk}
use Rattle.schema_laws.specs.Pairs.{number_of, AreSiblings, HaveOneNumber, IsNumberedBefore, BadValuesAreFound, BadBitsAreFound}
use Rattle.schema_laws.proofs.PathSteps.{siblings, siblings_tell, siblings_are}
use Rattle.schema_laws.proofs.State.{knows_at, adds, adds-start}
use Rattle.schema_laws.proofs.Found.{known_pair, or_either}
use Rattle.schema_laws.proofs.Numbers.{numbered_as, numbered, KnowsAt, Knows, Tells, walk_tells}

numbered_tells : (o : Option ℤ) (n : ℤ) → numbered_as o n ≡ true → o ≡ Some n
numbered_tells None n e = absurd (false≢true e)
numbered_tells (Some m) n e = ap Some (sym (set.int_cmp-IsAntisymmetric n m ((Equal-is (int_cmp n m)).0 e)))

numbered_is : (o : Option ℤ) (n : ℤ) → o ≡ Some n → numbered_as o n ≡ true
numbered_is o n e = (λ i. numbered_as (e i) n) ∙ ap is_eq (tied_itself int_cmp_total n)

known : (o : Option ℤ) (numbers : Numbers) (f : ℤ → Bool) (number : ℤ) → o ≡ Some number → KnowsAt o numbers f → (n : ℤ) → set.contains numbers n ≡ f n
known None numbers f number e k = absurd cc
known (Some m) numbers f number e k = k

pub number_pair : (schema : Schema) (before : List Place) (p : Place) (after : List Place) → walk schema ≡ before ++ p ∷ after → (number : ℤ) → number_of p.table ≡ Some number
    → (set.contains p.numbers number ≡ true) ↔ IsNumberedBefore before p
number_pair schema before p after split number e =
    let tells : Tells (λ _ _. false) (before ++ p ∷ after) = subst (λ (ps : List Place). Tells (λ _ _. false) ps) split (walk_tells schema) in
    let knows = knows_at siblings numbered Knows (λ _ _. false) before p after tells in
    known_pair siblings AreSiblings siblings_tell siblings_are before p.path_steps (λ t. numbered t number) (λ t. HaveOneNumber t p.table)
    (λ t yes. (number, numbered_tells (number_of t) number yes, e))
    (λ t same. numbered_is (number_of t) number (same.1 ∙ (sym same.2 ∙ e)))
    (set.contains p.numbers number)
    (known (number_of p.table) p.numbers (adds siblings numbered (λ _ _. false) before p.path_steps) number e knows number ∙ adds-start siblings numbered before p.path_steps number)

pub bad_values_are_found : BadValuesAreFound
bad_values_are_found schema before p after split prim v e =
    let pair = number_pair schema before p after split v.value (ap number_of e) in
    subst (λ (t : Table). (is_bad_enum p.numbers t ≡ true) ↔ (IsNumberedBefore before p ⊎ (lies_within (least_of prim) (greatest_of prim) v.value ≡ false))) (sym e)
    (or_either (set.contains p.numbers v.value) (lies_within (least_of prim) (greatest_of prim) v.value) (IsNumberedBefore before p) pair)

wide : (Q : Type 0) (m n : ℕ) (b : Bool) → (b ≡ true) ↔ (Q ⊎ (nat_lt m n ≡ false)) → (b ≡ true) ↔ (Q ⊎ (n ≤ m))
wide Q m n b h =
    (λ e. elim (h.0 e) [ inl q ↦ inl q | inr y ↦ inr (ltb-false m n y) ], λ s. elim s [ inl q ↦ h.1 (inl q) | inr y ↦ h.1 (inr (le-ltb m n y)) ])

pub bad_bits_are_found : BadBitsAreFound
bad_bits_are_found schema before p after split prim b e =
    let pair = number_pair schema before p after split (pos b.bit) (ap number_of e) in
    subst (λ (t : Table). (is_bad_set p.numbers t ≡ true) ↔ (IsNumberedBefore before p ⊎ (8 * size_of prim ≤ b.bit))) (sym e)
    (wide (IsNumberedBefore before p) b.bit (8 * size_of prim) _ (or_either (set.contains p.numbers (pos b.bit)) (nat_lt b.bit (8 * size_of prim)) (IsNumberedBefore before p) pair))
