-- A map from names that is filled from the last type to the first.
use Rattle.std.proofs.Common.{◌≡◌, ℕ, suc, ◌-◌, ◌<◌, ◌≤◌, ◌∙◌, sym, ap, refl, Bool, true, false, Option, Some, cond, if◌then◌else◌, List, ◌∷◌, length, drop, get_or, arith, drop-cons}
use Rattle.std.specs.Option.{option_map}
use Rattle.std.specs.Ordering.{nat_cmp}
use Rattle.std.specs.Cmp.Lexicographic.{slice_cmp, texts_ties}
use Rattle.std.specs.BTreeMap.{BTreeMap, get, is_at}
use Rattle.schema_types.specs.declared.types.TypeDef.{TypeDef}
use Rattle.schema_types.specs.declared.types.TypeKind.{TypeKind}
use Rattle.sbe_schema.specs.Meanings.{type_named}
use Rattle.sbe_schema.specs.Indexed.{Holds}

module _ {A : Type 0} (f : TypeKind → A) where
  of_choice : (b : Bool) (k : TypeKind) (o : Option TypeKind) → option_map f (if b then Some k else o) ≡ cond b (Some (f k)) (option_map f o)
  of_choice true k o = refl
  of_choice false k o = refl

  type_named-cons : (t : TypeDef) (ts : List TypeDef) (name : List ℕ) → option_map f (type_named name (t ∷ ts)) ≡ cond (is_at (slice_cmp nat_cmp t.name) name) (Some (f t.kind)) (option_map f (type_named name ts))
  type_named-cons t ts name =
      ap (λ b. option_map f (if b then Some t.kind else type_named name ts)) (texts_ties t.name name) ∙ of_choice _ t.kind _

  pub holds_more : (types : List TypeDef) (n : ℕ) (t : TypeDef) (key : List ℕ) (value : A) (old new : BTreeMap (List ℕ) A) → 0 < n → n ≤ length types → t ≡ get_or types (n - 1) t → key ≡ t.name → value ≡ f t.kind → Holds old f (drop n types) → ((q : List ℕ) → get (slice_cmp nat_cmp) new q ≡ cond (is_at (slice_cmp nat_cmp key) q) (Some value) (get (slice_cmp nat_cmp) old q)) → Holds new f (drop (n - 1) types)
  holds_more types n t key value old new pos within is k v held updates =
      let next : suc (n - 1) ≡ n = omega arith in
      let front : drop (n - 1) types ≡ t ∷ drop n types =
      drop-cons types (n - 1) t (omega arith) ∙ (λ i. sym is i ∷ drop (next i) types) in
      record {
        at = λ name.
            updates name
            ∙ (λ i. cond (is_at (slice_cmp nat_cmp (k i)) name) (Some (v i)) (held.at name i))
            ∙ sym (type_named-cons t (drop n types) name)
            ∙ ap (λ ts. option_map f (type_named name ts)) (sym front);
      }
