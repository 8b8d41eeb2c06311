-- The law of names: what the test tells, at each kind of table.
use Rattle.std.proofs.Common.{◌≡◌, ℕ, ◌⊎◌, inl, inr, ◌↔◌, true, false, ◌&&◌, is_some, Option, Some, None, List, ◌∷◌, ◌++◌, refl, sym, ap, ◌∙◌, Contains}
use Rattle.std.proofs.lemmas.Bool.{false≢true, or_cases, or_left, or_right}
use Rattle.std.specs.List.{list_any}
use Rattle.std.specs.Ordering.{nat_cmp, is_eq}
use Rattle.std.specs.Cmp.{Equal-is, tied_itself}
use Rattle.std.specs.Cmp.Lexicographic.{slice_cmp, nat_list_cmp_total}
use Rattle.std.specs.FinSet as set
use Rattle.sbe_schema.specs.Names.{Names}
use Rattle.sbe_prim.specs.Names.{primitive_named}
use Rattle.sbe_schema.specs.Places.{Place, Table, whole, type_table, value_table, bit_table, member_table, message_table, field_table, group_table, data_table}
use Rattle.sbe_schema.specs.Identity.{is_duplicate_name}
use Rattle.schema_laws.specs.Pairs.{name_of, AreSiblings, HaveOneName, IsNamedAsPrimitive, DuplicateNamesAreFound}
use Rattle.schema_laws.proofs.Found.{known_pair}
use Rattle.schema_laws.proofs.PathSteps.{siblings, siblings_tell, siblings_are}
use Rattle.schema_laws.proofs.State.{knows_at, adds-start}
use Rattle.schema_laws.proofs.Names.{named_as, named, Knows, Tells, walk_tells}
use Rattle.std.proofs.Common.{subst}

named_tells : (o : Option (List ℕ)) (n : List ℕ) → named_as o n ≡ true → o ≡ Some n
named_tells None n e = absurd (false≢true e)
named_tells (Some m) n e = ap Some (sym (set.slice_cmp-IsAntisymmetric set.nat_cmp-IsAntisymmetric n m ((Equal-is (slice_cmp nat_cmp n m)).0 e)))

named_is : (o : Option (List ℕ)) (n : List ℕ) → o ≡ Some n → named_as o n ≡ true
named_is o n e = (λ i. named_as (e i) n) ∙ ap is_eq (tied_itself nat_list_cmp_total n)

-- a place before has the same name in the same list or block
abbrev NameBefore : List Place → Place → Type 0
NameBefore before p = (q : Place) × Contains before q × AreSiblings q.path_steps p.path_steps × HaveOneName q.table p.table

name_pair : (before : List Place) (p : Place) (name : List ℕ) → name_of p.table ≡ Some name → set.contains p.names name ≡ list_any (λ q. siblings q.path_steps p.path_steps && named q.table name) before
    → (set.contains p.names name ≡ true) ↔ NameBefore before p
name_pair before p name e known =
    known_pair siblings AreSiblings siblings_tell siblings_are before p.path_steps (λ t. named t name) (λ t. HaveOneName t p.table)
    (λ t yes. (name, named_tells (name_of t) name yes, e))
    (λ t same. named_is (name_of t) name (same.1 ∙ (sym same.2 ∙ e)))
    (set.contains p.names name) known

-- the rule, at each kind of table
name_rule : (names : Names) (t : Table) (Q : Type 0) → ((name : List ℕ) → name_of t ≡ Some name → (set.contains names name ≡ true) ↔ Q) → (name_of t ≡ None → Q → ⊥)
    → (is_duplicate_name names t ≡ true) ↔ (IsNamedAsPrimitive t ⊎ Q)
name_rule names whole Q at none = (λ e. absurd (false≢true e), λ s. elim s [ inl x ↦ absurd x | inr q ↦ absurd (none refl q) ])
name_rule names (type_table t) Q at none = (
  λ e. elim (or_cases (set.contains names t.name) (is_some (primitive_named t.name)) e) [ inl x ↦ inr ((at t.name refl).0 x) | inr y ↦ inl y ],
  λ s. elim s [ inl y ↦ or_right (set.contains names t.name) (is_some (primitive_named t.name)) y | inr q ↦ or_left (set.contains names t.name) (is_some (primitive_named t.name)) ((at t.name refl).1 q) ],
)
name_rule names (value_table prim v) Q at none = (λ e. inr ((at v.name refl).0 e), λ s. elim s [ inl x ↦ absurd x | inr q ↦ (at v.name refl).1 q ])
name_rule names (bit_table prim b) Q at none = (λ e. inr ((at b.name refl).0 e), λ s. elim s [ inl x ↦ absurd x | inr q ↦ (at b.name refl).1 q ])
name_rule names (member_table end m) Q at none = (λ e. inr ((at m.name refl).0 e), λ s. elim s [ inl x ↦ absurd x | inr q ↦ (at m.name refl).1 q ])
name_rule names (message_table m) Q at none = (λ e. inr ((at m.name refl).0 e), λ s. elim s [ inl x ↦ absurd x | inr q ↦ (at m.name refl).1 q ])
name_rule names (field_table least_since end f) Q at none = (λ e. inr ((at f.name refl).0 e), λ s. elim s [ inl x ↦ absurd x | inr q ↦ (at f.name refl).1 q ])
name_rule names (group_table parent least_since g) Q at none = (λ e. inr ((at g.name refl).0 e), λ s. elim s [ inl x ↦ absurd x | inr q ↦ (at g.name refl).1 q ])
name_rule names (data_table parent least_since d) Q at none = (λ e. inr ((at d.name refl).0 e), λ s. elim s [ inl x ↦ absurd x | inr q ↦ (at d.name refl).1 q ])

pub duplicate_names_are_found : DuplicateNamesAreFound
duplicate_names_are_found schema before p after split =
    let tells : Tells (λ _ _. false) (before ++ p ∷ after) = subst (λ (ps : List Place). Tells (λ _ _. false) ps) split (walk_tells schema) in
    name_rule p.names p.table (NameBefore before p) (λ name e. name_pair before p name e (knows_at siblings named Knows (λ _ _. false) before p after tells name ∙ adds-start siblings named before p.path_steps name)) (λ none s. cc (none, s.3.2))
