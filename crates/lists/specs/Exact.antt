-- Tests of equality that are exact: true of equal values, and of no others.
use Rattle.std.specs.Prelude.{◌≡◌, Bool, true, false, ◌&&◌, Option, Some, None, refl}
use Rattle.std.proofs.Common.{◌∙◌, sym, ap, subst, Decides}
use Rattle.std.proofs.lemmas.Bool.{false≢true}
use Rattle.std.proofs.lemmas.Bool.Decides.{Decides-and, Decides-like}
use Rattle.std.specs.Option.{option_eq}
use Rattle.std.specs.Cmp.{IsPartialEquivalence}
use denote.Enum.Declared.{Declared}
use denote.Enum.Bare.{Bare, sameb, same_true, true_same}

abbrev pub Exact : {A : Type 0} → (A → A → Bool) → Type 0
Exact {A} same = (x y : A) → Decides (same x y) (x ≡ y)

-- a test that is true of each value and itself, and only of equal ones
pub exact : {A : Type 0} (same : A → A → Bool) → ((x : A) → same x x ≡ true) → ((x y : A) → same x y ≡ true → x ≡ y) → Exact same
exact {A} same itself only x y = let P : A → Type 0 = λ z. same x z ≡ true in (only x y, λ p. subst P p (itself x))

-- of pairs, part by part
pub exact_pair : {A B : Type 0} {E : A → A → Bool} {F : B → B → Bool} → Exact E → Exact F → Exact (λ (p q : A × B). E p.0 q.0 && F p.1 q.1)
exact_pair {A} {B} {E} {F} a b p q =
    Decides-like (E p.0 q.0 && F p.1 q.1) (λ e. λ i. (e.0 i, e.1 i)) (λ e. (ap (λ z. z.0) e, ap (λ z. z.1) e))
    (Decides-and (E p.0 q.0) (F p.1 q.1) (a p.0 q.0) (b p.1 q.1))

-- of values that are told by others
pub exact_by : {A B : Type 0} {E : B → B → Bool} (f : A → B) (g : B → A) → ((x : A) → g (f x) ≡ x) → Exact E → Exact (λ (x y : A). E (f x) (f y))
exact_by f g back same x y = (λ t. sym (back x) ∙ ap g ((same (f x) (f y)).0 t) ∙ back y, λ e. (same (f x) (f y)).1 (ap f e))

-- of values that may be missing
option_itself : {A : Type 0} {E : A → A → Bool} → Exact E → (x : Option A) → option_eq E x x ≡ true
option_itself e None = refl
option_itself e (Some x) = (e x x).1 refl

option_only : {A : Type 0} {E : A → A → Bool} → Exact E → (x y : Option A) → option_eq E x y ≡ true → x ≡ y
option_only e None None t = refl
option_only e None (Some y) t = absurd (false≢true t)
option_only e (Some x) None t = absurd (false≢true t)
option_only e (Some x) (Some y) t = ap Some ((e x y).0 t)

pub exact_option : {A : Type 0} {E : A → A → Bool} → Exact E → Exact (option_eq E)
exact_option {A} {E} e = exact (option_eq E) (option_itself e) (option_only e)

-- of an enum whose variants have no fields
pub exact_bare : (D : Declared) → Bare D.parts → Exact (sameb D)
exact_bare D bare x y = (same_true D bare x y, true_same D x y)

-- two truth values are equal where each makes the other true
both_ways : (a b : Bool) → (a ≡ true → b ≡ true) → (b ≡ true → a ≡ true) → a ≡ b
both_ways true b f g = sym (f refl)
both_ways false true f g = g refl
both_ways false false f g = refl

-- an exact test is symmetric and transitive
pub partial_equivalence : {A : Type 0} (same : A → A → Bool) → Exact same → IsPartialEquivalence same
partial_equivalence same h = record {
  symm = λ x y. both_ways (same x y) (same y x) (λ t. (h y x).1 (sym ((h x y).0 t))) (λ t. (h x y).1 (sym ((h y x).0 t)));
  trans = λ x y z s t. (h x z).1 ((h x y).0 s ∙ (h y z).0 t);
}
