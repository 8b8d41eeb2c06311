-- A map from names that is filled from the last type to the first.
use Rattle.std.proofs.Common.{◌≡◌, ℕ, suc, ◌+◌, ◌-◌, ◌<◌, ◌≤◌, ◌∙◌, sym, ap, Some, cond, if◌then◌else◌, List, ◌∷◌, length, drop, get_or, arith, drop-cons}
use Rattle.std.specs.Ordering.{nat_cmp}
use Rattle.std.specs.Cmp.Lexicographic.{slice_cmp, texts_ties}
use Rattle.std.specs.BTreeMap.{BTreeMap, get, is_at}
use Rattle.schema_types.specs.declared.types.TypeDef.{TypeDef}
use Rattle.sbe_layout.specs.declared.resolve.Resolved.{Resolved}
use Rattle.sbe_layout.specs.Plans.{resolved_kind, resolved_among}
use Rattle.sbe_layout.specs.Context.{Resolves}

resolved_among-cons : (at : ℕ) (t : TypeDef) (ts : List TypeDef) (name : List ℕ) → resolved_among at (t ∷ ts) name ≡ cond (is_at (slice_cmp nat_cmp t.name) name) (Some (resolved_kind at t.kind)) (resolved_among (at + 1) ts name)
resolved_among-cons at t ts name =
    ap (λ b. if b then Some (resolved_kind at t.kind) else resolved_among (at + 1) ts name) (texts_ties t.name name)

pub resolves_more : (types : List TypeDef) (n : ℕ) (t : TypeDef) (key : List ℕ) (value : Resolved) (old new : BTreeMap (List ℕ) Resolved) → 0 < n → n ≤ length types → t ≡ get_or types (n - 1) t → key ≡ t.name → value ≡ resolved_kind (n - 1) t.kind → Resolves old n (drop n types) → ((q : List ℕ) → get (slice_cmp nat_cmp) new q ≡ cond (is_at (slice_cmp nat_cmp key) q) (Some value) (get (slice_cmp nat_cmp) old q)) → Resolves new (n - 1) (drop (n - 1) types)
resolves_more types n t key value old new pos within is k v held updates =
    let next : suc (n - 1) ≡ n = omega arith in
    let back : n - 1 + 1 ≡ n = omega arith in
    let front : drop (n - 1) types ≡ t ∷ drop n types =
    drop-cons types (n - 1) t (omega arith) ∙ (λ i. sym is i ∷ drop (next i) types) in
    record {
      found = λ name.
          updates name
          ∙ (λ i. cond (is_at (slice_cmp nat_cmp (k i)) name) (Some (v i)) (held.found name i))
          ∙ ap (λ m. cond (is_at (slice_cmp nat_cmp t.name) name) (Some (resolved_kind (n - 1) t.kind)) (resolved_among m (drop n types) name)) (sym back)
          ∙ sym (resolved_among-cons (n - 1) t (drop n types) name)
          ∙ ap (λ ts. resolved_among (n - 1) ts name) (sym front);
    }
