-- A test of two places for being in one list or block.
use Rattle.std.proofs.Common.{◌≡◌, ℕ, ◌<◌, ◌==◌, Bool, true, false, ◌&&◌, ◌||◌, List, [], ◌∷◌, ◌++◌, refl, sym, ap, ◌∙◌, arith}
use Rattle.std.proofs.lemmas.Bool.{false≢true, eqb-true, eq-eqb, ne_eqb, and_parts}
use Rattle.sbe_schema.specs.declared.fault.PathStep.{PathStep}
use Rattle.sbe_schema.specs.declared.fault.TableArray.{TableArray}
use Rattle.sbe_schema.specs.declared.fault.TableArray.TheVariants.{Types, Values, Bits, Members, Messages, Fields, Groups, Data}
use Rattle.schema_laws.specs.Pairs.{list_of, AreSiblings}

abbrev pub same_array : TableArray → TableArray → Bool
same_array Types Types = true
same_array Values Values = true
same_array Bits Bits = true
same_array Members Members = true
same_array Messages Messages = true
same_array Fields Fields = true
same_array Groups Groups = true
same_array Data Data = true
same_array _ _ = false

pub same_array-itself : (p : TableArray) → same_array p p ≡ true
same_array-itself Types = refl
same_array-itself Values = refl
same_array-itself Bits = refl
same_array-itself Members = refl
same_array-itself Messages = refl
same_array-itself Fields = refl
same_array-itself Groups = refl
same_array-itself Data = refl

pub same_array-same : (p q : TableArray) → same_array p q ≡ true → p ≡ q
same_array-same Types Types e = refl
same_array-same Values Values e = refl
same_array-same Bits Bits e = refl
same_array-same Members Members e = refl
same_array-same Messages Messages e = refl
same_array-same Fields Fields e = refl
same_array-same Groups Groups e = refl
same_array-same Data Data e = refl
same_array-same _ _ e = absurd (false≢true e)

abbrev pub same_path_step : PathStep → PathStep → Bool
same_path_step x y = same_array x.array y.array && (x.at == y.at)

abbrev pub same_list : PathStep → PathStep → Bool
same_list x y = same_array (list_of x.array) (list_of y.array)

pub same_path_step-itself : (x : PathStep) → same_path_step x x ≡ true
same_path_step-itself x = λ i. same_array-itself x.array i && eq-eqb x.at x.at refl i

pub same_path_step-same : (x y : PathStep) → same_path_step x y ≡ true → x ≡ y
same_path_step-same x y e =
    let both = and_parts (same_array x.array y.array) (x.at == y.at) e in
    λ i. record { array = same_array-same x.array y.array both.0 i; at = eqb-true x.at y.at both.1 i }

abbrev pub is_nil : List PathStep → Bool
is_nil [] = true
is_nil (x ∷ xs) = false

abbrev pub siblings : List PathStep → List PathStep → Bool
siblings [] ys = false
siblings (x ∷ xs) [] = false
siblings (x ∷ xs) (y ∷ ys) = (is_nil xs && (is_nil ys && same_list x y)) || (siblings xs ys && same_path_step x y)

and_true : (a : Bool) → (a && true) ≡ a
and_true true = refl
and_true false = refl

and_false : (a : Bool) → (a && false) ≡ false
and_false true = refl
and_false false = refl

or_false : (a : Bool) → (a || false) ≡ a
or_false true = refl
or_false false = refl

is_nil-more : (base : List PathStep) (x : PathStep) (xs : List PathStep) → is_nil (base ++ x ∷ xs) ≡ false
is_nil-more [] x xs = refl
is_nil-more (b ∷ base) x xs = refl

-- what stands behind a common base decides
pub siblings-base : (base : List PathStep) (x y : PathStep) (xs ys : List PathStep) → siblings (base ++ x ∷ xs) (base ++ y ∷ ys) ≡ siblings (x ∷ xs) (y ∷ ys)
siblings-base [] x y xs ys = refl
siblings-base (b ∷ base) x y xs ys =
    (λ i. (is_nil-more base x xs i && (is_nil (base ++ y ∷ ys) && same_list b b)) || (siblings-base base x y xs ys i && same_path_step-itself b i)) ∙ and_true _

pub siblings-last : (base : List PathStep) (x y : PathStep) → siblings (base ++ x ∷ []) (base ++ y ∷ []) ≡ same_list x y
siblings-last base x y = siblings-base base x y [] [] ∙ or_false _

-- what is in a list is no sibling of what lies deeper, nor the other way round
pub siblings-deeper : (base : List PathStep) (x y z : PathStep) (zs : List PathStep) → siblings (base ++ x ∷ []) (base ++ y ∷ z ∷ zs) ≡ false
siblings-deeper base x y z zs = siblings-base base x y [] (z ∷ zs)

pub siblings-higher : (base : List PathStep) (x y z : PathStep) (zs : List PathStep) → siblings (base ++ x ∷ z ∷ zs) (base ++ y ∷ []) ≡ false
siblings-higher base x y z zs = siblings-base base x y (z ∷ zs) []

-- what lies below one path step is no sibling of what lies below another
pub siblings-other : (base : List PathStep) (x y z w : PathStep) (zs ws : List PathStep) → same_path_step x y ≡ false → siblings (base ++ x ∷ z ∷ zs) (base ++ y ∷ w ∷ ws) ≡ false
siblings-other base x y z w zs ws e = siblings-base base x y (z ∷ zs) (w ∷ ws) ∙ (ap (λ b. siblings (z ∷ zs) (w ∷ ws) && b) e ∙ and_false _)

pub other_at : (p : TableArray) (i j : ℕ) → i < j → same_array p p && (i == j) ≡ false
other_at p i j h = ap (λ b. same_array p p && b) (ne_eqb i j (λ e. omega arith)) ∙ and_false _

-- ---- the test, and what it tells

pub siblings_tell : (xs ys : List PathStep) → siblings xs ys ≡ true → AreSiblings xs ys
siblings_tell [] ys e = absurd (false≢true e)
siblings_tell (x ∷ xs) [] e = absurd (false≢true e)
siblings_tell (x ∷ []) (y ∷ []) e = ([], x, y, refl, refl, same_array-same (list_of x.array) (list_of y.array) (sym (or_false _) ∙ e))
siblings_tell (x ∷ []) (y ∷ z ∷ zs) e = absurd (false≢true e)
siblings_tell (x ∷ w ∷ ws) (y ∷ ys) e =
    let both = and_parts (siblings (w ∷ ws) ys) (same_path_step x y) e in
    let inner = siblings_tell (w ∷ ws) ys both.0 in
    (x ∷ inner.0, inner.1, inner.2, ap (λ l. x ∷ l) inner.3, (λ i. sym (same_path_step-same x y both.1) i ∷ inner.4 i), inner.5)

pub siblings_are : (xs ys : List PathStep) → AreSiblings xs ys → siblings xs ys ≡ true
siblings_are xs ys s =
    (λ i. siblings (s.3 i) (s.4 i)) ∙ (siblings-last s.0 s.1 s.2 ∙ (ap (λ l. same_array l (list_of s.2.array)) s.5 ∙ same_array-itself (list_of s.2.array)))
