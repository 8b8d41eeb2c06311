-- The map of the templates' places is filled from the last message to the first, and finds the first of a template.
use Rattle.std.proofs.Common.{◌≡◌, ℕ, zero, suc, ◌+◌, ◌-◌, ◌<◌, ◌≤◌, ◌∙◌, refl, sym, ap, true, false, Option, Some, None, IfSome, is_some, nat_lt, cond, if◌then◌else◌, ◌==◌, List, [], ◌∷◌, length, drop, get_or, slice_get, arith, drop-cons}
use Rattle.std.proofs.lemmas.Bool.{true≢false, ltb-true, ltb-false}
use Rattle.std.specs.Ordering.{nat_cmp}
use Rattle.std.specs.Option.{option_copied}
use denote.Bor.{Bor}
use Rattle.std.specs.Cmp.{unsigned_tied}
use Rattle.std.specs.BTreeMap.{BTreeMap, get, is_at}
use Rattle.sbe_layout.specs.declared.plan.MessagePlan.{MessagePlan}
use Rattle.sbe_layout.specs.Plans.{message_of}
use Rattle.sbe_layout.specs.Templates.{place_among, HasPlaces}

place_among-cons : (at : ℕ) (m : MessagePlan) (ms : List MessagePlan) (t : ℕ) → place_among at (m ∷ ms) t ≡ cond (is_at (nat_cmp m.template) t) (Some at) (place_among (at + 1) ms t)
place_among-cons at m ms t = ap (λ b. if b then Some at else place_among (at + 1) ms t) (sym (unsigned_tied m.template t))

pub places_more : (ms : List MessagePlan) (n : ℕ) (m : MessagePlan) (key value : ℕ) (old new : BTreeMap ℕ ℕ) → 0 < n → n ≤ length ms → m ≡ get_or ms (n - 1) m → key ≡ m.template → value ≡ n - 1 → HasPlaces old n (drop n ms) → ((q : ℕ) → get nat_cmp new q ≡ cond (is_at (nat_cmp key) q) (Some value) (get nat_cmp old q)) → HasPlaces new (n - 1) (drop (n - 1) ms)
places_more ms n m key value old new pos within is k v held updates =
    let next : suc (n - 1) ≡ n = omega arith in
    let back : n - 1 + 1 ≡ n = omega arith in
    let front : drop (n - 1) ms ≡ m ∷ drop n ms = drop-cons ms (n - 1) m (omega arith) ∙ (λ i. sym is i ∷ drop (next i) ms) in
    record {
      found = λ t.
          updates t
          ∙ (λ i. cond (is_at (nat_cmp (k i)) t) (Some (v i)) (held.found t i))
          ∙ ap (λ j. cond (is_at (nat_cmp m.template) t) (Some (n - 1)) (place_among j (drop n ms) t)) (sym back)
          ∙ sym (place_among-cons (n - 1) m (drop n ms) t)
          ∙ ap (λ l. place_among (n - 1) l t) (sym front);
    }

some_is : (a b : ℕ) → Some a ≡ Some b → a ≡ b
some_is a b e = ap (λ (o : Option ℕ). elim o [ None ↦ a | Some x ↦ x ]) e

none_some : {X : Type 0} (k : ℕ) → None ≡ Some k → X
none_some k e = absurd (true≢false (ap (λ (o : Option ℕ). elim o [ None ↦ true | Some x ↦ false ]) e))

placed : (at : ℕ) (ms : List MessagePlan) (t k : ℕ) → place_among at ms t ≡ Some k → (at ≤ k) × (slice_get ms (k - at) ≡ message_of t ms)
placed at [] t k e = none_some k e
placed at (m ∷ ms) t k e =
    elim (m.template == t) as (λ b. (if b then Some at else place_among (at + 1) ms t) ≡ Some k → (at ≤ k) × (slice_get (m ∷ ms) (k - at) ≡ (if b then Some m else message_of t ms))) [
      | true ↦ λ here. let same : at ≡ k = some_is at k here in let first : k - at ≡ 0 = omega (arith, same) in (omega (arith, same), ap (slice_get (m ∷ ms)) first)
      | false ↦ λ later. let rest = placed (at + 1) ms t k later in let up : k - at ≡ suc (k - (at + 1)) = omega (arith, rest.0) in (omega (arith, rest.0), ap (slice_get (m ∷ ms)) up ∙ rest.1)
    ] e

pub place_is : (map : BTreeMap ℕ ℕ) (ms : List MessagePlan) (t k : ℕ) → HasPlaces map 0 ms → Some k ≡ get nat_cmp map t → slice_get ms k ≡ message_of t ms
place_is map ms t k h e = let whole : k ≡ k - 0 = omega arith in ap (slice_get ms) whole ∙ (placed 0 ms t k (sym (h.found t) ∙ sym e)).1

nowhere : (at : ℕ) (ms : List MessagePlan) (t : ℕ) → place_among at ms t ≡ None → message_of t ms ≡ None
nowhere at [] t e = refl
nowhere at (m ∷ ms) t e =
    elim (m.template == t) as (λ b. (if b then Some at else place_among (at + 1) ms t) ≡ None → (if b then Some m else message_of t ms) ≡ None) [
      | true ↦ λ here. none_some at (sym here)
      | false ↦ λ later. nowhere (at + 1) ms t later
    ] e

pub no_place : (map : BTreeMap ℕ ℕ) (ms : List MessagePlan) (t : ℕ) → HasPlaces map 0 ms → None ≡ get nat_cmp map t → None ≡ message_of t ms
no_place map ms t h e = sym (nowhere 0 ms t (sym (h.found t) ∙ sym e))

none_at : (ms : List MessagePlan) (k : ℕ) → length ms ≤ k → None ≡ slice_get ms k
none_at [] k h = refl
none_at (m ∷ ms) zero h = absurd (omega arith)
none_at (m ∷ ms) (suc k) h = none_at ms k (omega arith)

some_at : (ms : List MessagePlan) (k : ℕ) (x : MessagePlan) → k < length ms → x ≡ get_or ms k x → Some x ≡ slice_get ms k
some_at [] k x h e = absurd (omega arith)
some_at (m ∷ ms) zero x h e = ap Some e
some_at (m ∷ ms) (suc k) x h e = some_at ms k x (omega arith) e

-- what is found at a place of a slice
pub looked_up : (ms : List MessagePlan) (k : ℕ) (r : Option (Bor MessagePlan)) → is_some r ≡ nat_lt k (length ms) → IfSome r (λ x. x.now ≡ get_or ms k x.now) → option_copied r ≡ slice_get ms k
looked_up ms k None e h = none_at ms k (ltb-false k (length ms) (sym e))
looked_up ms k (Some x) e h = some_at ms k x.now (ltb-true k (length ms) (sym e)) h
