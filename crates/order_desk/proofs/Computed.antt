-- What is found of the order schema by computing it at both versions.
use Rattle.std.proofs.Common.{◌≡◌, ℕ, IsTrue, Bool, true, false, not, Option, Some, None, List, [], ◌∷◌, if◌then◌else◌, refl, sym, ◌∙◌, subst, inl, inr}
use Rattle.std.specs.Prelude.{◌&&◌}
use Rattle.std.proofs.lemmas.Bool.{false≢true}
use Rattle.sbe_prim.specs.Names.{primitive_named}
use Rattle.schema_types.specs.declared.schema.Schema.{Schema}
use Rattle.sbe_schema.specs.declared.fault.SchemaKind.{SchemaKind}
use Rattle.sbe_schema.specs.declared.fault.SchemaKind.TheVariants.{Memory}
use Rattle.sbe_schema.specs.declared.fault.SchemaFault.{SchemaFault}
use Rattle.sbe_schema.specs.Faults.{has_fault}
use Rattle.sbe_schema.specs.Checked.{is_checked, rules_in_order, has_none_of, least_in, least_fault, IsLeast}
use Rattle.order_desk.specs.Schema.{IsVersion, order_schema}
use Rattle.order_desk.specs.Laws.{SchemaIsChecked}

checked_1 : IsTrue (is_checked (order_schema 1))
unfolding primitive_named is_checked
checked_1 = refl

checked_2 : IsTrue (is_checked (order_schema 2))
unfolding primitive_named is_checked
checked_2 = refl

pub schema_is_checked : SchemaIsChecked
schema_is_checked version (inl e) = subst (λ (n : ℕ). IsTrue (is_checked (order_schema n))) (sym e) checked_1
schema_is_checked version (inr e) = subst (λ (n : ℕ). IsTrue (is_checked (order_schema n))) (sym e) checked_2

-- a checked schema has no least fault, so that a refusal says want of memory
no_rule : (b : Bool) (kind : SchemaKind) (others : Bool) (least : Option SchemaKind) → (not b && others) ≡ true → (others ≡ true → least ≡ None) → (if b then Some kind else least) ≡ None
no_rule true kind others least h none = absurd (false≢true h)
no_rule false kind others least h none = none h

none_in : (s : Schema) (kinds : List SchemaKind) → has_none_of s kinds ≡ true → least_in s kinds ≡ None
none_in s [] h = refl
none_in s (kind ∷ kinds) h = no_rule (has_fault s kind) kind (has_none_of s kinds) (least_in s kinds) h (none_in s kinds)

none_least : (s : Schema) → IsTrue (is_checked s) → least_fault s ≡ None
unfolding is_checked least_fault
none_least s h = none_in s rules_in_order h

pub only_memory : (version : ℕ) (s : Schema) (found : SchemaFault) → IsVersion version → s ≡ order_schema version → IsLeast s found → found.kind ≡ Memory
only_memory version s found one same (inl memory) = memory
only_memory version s found one same (inr least) =
    absurd (none_some found.kind (sym (none_least s (subst (λ (x : Schema). IsTrue (is_checked x)) (sym same) (schema_is_checked version one))) ∙ least))
  where
    none_some : (kind : SchemaKind) → None ≡ Some kind → ⊥
    none_some kind e = cc
