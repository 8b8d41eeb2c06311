-- What the tests tell of one list or block, where each place comes with the set of what stands before it.
use Rattle.std.proofs.Common.{◌≡◌, ℕ, ◌+◌, ◌≤◌, Bool, true, false, ◌&&◌, ◌||◌, List, [], ◌∷◌, ◌++◌, sym, ap, ◌∙◌, arith, append_assoc}
use Rattle.std.specs.List.{AllByRecursion}
use Rattle.std.specs.declared.cmp.Ordering.{Ordering}
use Rattle.std.specs.Ordering.{eq_by_cmp}
use Rattle.std.specs.Cmp.{IsTotalOrder}
use Rattle.std.specs.FinSet as set
use Rattle.sbe_schema.specs.declared.fault.PathStep.{PathStep}
use Rattle.sbe_schema.specs.declared.fault.TableArray.{TableArray}
use Rattle.sbe_schema.specs.Names.{Names, Numbers}
use Rattle.sbe_schema.specs.Places.{Place, Table}
use Rattle.sbe_schema.specs.Walk.{path_step, place}
use Rattle.schema_laws.specs.Pairs.{list_of}
use Rattle.schema_laws.proofs.PathSteps.{same_array, same_array-itself, same_path_step, siblings, siblings-last, siblings-deeper, siblings-higher, siblings-other, other_at}
use Rattle.schema_laws.proofs.State.{add, adds, NoneNear, adds-none}
use Rattle.schema_laws.proofs.Below.{Below}

module _ {V : Type 0} where
  -- nothing is known below a base; below those of a list from a number on
  abbrev pub Free : List PathStep → (List PathStep → V → Bool) → Type 0
  Free base s = (y : PathStep) (r : List PathStep) (n : V) → s (base ++ y ∷ r) n ≡ false

  abbrev pub FreeFrom : List PathStep → TableArray → ℕ → (List PathStep → V → Bool) → Type 0
  FreeFrom base array at s = (j : ℕ) → at ≤ j → (y : PathStep) (r : List PathStep) (n : V) → s (base ++ path_step array j ∷ y ∷ r) n ≡ false

module _ {V : Type 0} {R : V → V → Ordering} where
  -- of one list or block at a base, what is known so far is this set
  abbrev pub Holds : List PathStep → TableArray → (List PathStep → V → Bool) → set.FinSet R → Type 0
  Holds base list s known = (x : PathStep) → list_of x.array ≡ list → (n : V) → s (base ++ x ∷ []) n ≡ set.contains known n

module _ {V : Type 0} (R : V → V → Ordering) where
  pub holds_none : (base : List PathStep) (list : TableArray) (s : List PathStep → V → Bool) → Free base s → Holds base list s (set.empty {R = R})
  holds_none base list s free x l n = free x [] n ∙ sym (set.contains-empty R n)

module _ {V : Type 0} (has : Table → V → Bool) where
  abbrev pub with : (List PathStep → V → Bool) → Place → List PathStep → V → Bool
  with s p = add siblings has s p

  abbrev pub after : (List PathStep → V → Bool) → List Place → List PathStep → V → Bool
  after s ps = adds siblings has s ps

  -- what lies below one place touches neither its list nor what lies below another
  pub free_below : (base : List PathStep) (array : TableArray) (at : ℕ) (names : Names) (ids : Numbers) (table : Table) (s : List PathStep → V → Bool)
      → FreeFrom base array at s → Free (base ++ path_step array at ∷ []) (with s (place base array at names ids table))
  free_below base array at names ids table s free y r n =
      let deep : (base ++ path_step array at ∷ []) ++ y ∷ r ≡ base ++ path_step array at ∷ y ∷ r = append_assoc base (path_step array at ∷ []) (y ∷ r) in
      let away : siblings (base ++ path_step array at ∷ []) ((base ++ path_step array at ∷ []) ++ y ∷ r) ≡ false = ap (λ l. siblings (base ++ path_step array at ∷ []) l) deep ∙ siblings-deeper base (path_step array at) (path_step array at) y r in
      let none : s ((base ++ path_step array at ∷ []) ++ y ∷ r) n ≡ false = ap (λ l. s l n) deep ∙ free at (omega arith) y r n in
      λ i. (away i && has table n) || none i

  pub none_near : (path here : List PathStep) (ps : List Place) → ((y : PathStep) (r : List PathStep) → siblings (here ++ y ∷ r) path ≡ false) → AllByRecursion (Below here) ps → NoneNear siblings has path ps
  none_near path here [] away a = tt
  none_near path here (p ∷ ps) away a = (ap (λ l. siblings l path) a.0.2 ∙ away a.0.0 a.0.1, none_near path here ps away a.1)

  pub holds_over : {R : V → V → Ordering} (base : List PathStep) (x : PathStep) (list : TableArray) (s : List PathStep → V → Bool) (names : set.FinSet R) (ps : List Place)
      → AllByRecursion (Below (base ++ x ∷ [])) ps → Holds base list s names → Holds base list (after s ps) names
  holds_over base x list s names ps below h z l n =
      let away : (y : PathStep) (r : List PathStep) → siblings ((base ++ x ∷ []) ++ y ∷ r) (base ++ z ∷ []) ≡ false
      = λ y r. ap (λ w. siblings w (base ++ z ∷ [])) (append_assoc base (x ∷ []) (y ∷ r)) ∙ siblings-higher base x z y r in
      adds-none siblings has s ps (base ++ z ∷ []) n (none_near (base ++ z ∷ []) (base ++ x ∷ []) ps away below) ∙ h z l n

  pub free_over : (base : List PathStep) (array : TableArray) (at : ℕ) (names : Names) (ids : Numbers) (table : Table) (s : List PathStep → V → Bool) (ps : List Place)
      → AllByRecursion (Below (base ++ path_step array at ∷ [])) ps → FreeFrom base array at s → FreeFrom base array (at + 1) (after (with s (place base array at names ids table)) ps)
  free_over base array at names ids table s ps below free j h z t n =
      let path : List PathStep = base ++ path_step array j ∷ z ∷ t in
      let other : same_path_step (path_step array at) (path_step array j) ≡ false = other_at array at j (omega arith) in
      let away : (y : PathStep) (r : List PathStep) → siblings ((base ++ path_step array at ∷ []) ++ y ∷ r) (base ++ path_step array j ∷ z ∷ t) ≡ false
      = λ y r. ap (λ w. siblings w (base ++ path_step array j ∷ z ∷ t)) (append_assoc base (path_step array at ∷ []) (y ∷ r)) ∙ siblings-other base (path_step array at) (path_step array j) y z r t other in
      adds-none siblings has (with s (place base array at names ids table)) ps (base ++ path_step array j ∷ z ∷ t) n (none_near (base ++ path_step array j ∷ z ∷ t) (base ++ path_step array at ∷ []) ps away below)
      ∙ (λ i. (siblings-deeper base (path_step array at) (path_step array j) z t i && has table n) || free j (omega arith) z t n i)

module _ {V : Type 0} {R : V → V → Ordering} (o : IsTotalOrder R) (has : Table → V → Bool) where
  pub holds_more : (base : List PathStep) (array : TableArray) (at : ℕ) (names : Names) (ids : Numbers) (table : Table) (s : List PathStep → V → Bool) (known : set.FinSet R) (v : V)
      → ((n : V) → has table n ≡ eq_by_cmp R n v) → Holds base (list_of array) s known → Holds base (list_of array) (with has s (place base array at names ids table)) (set.insert known v)
  holds_more base array at names ids table s known v e h x l n =
      let near : siblings (base ++ path_step array at ∷ []) (base ++ x ∷ []) ≡ true = siblings-last base (path_step array at) x ∙ (ap (λ p. same_array (list_of array) p) l ∙ same_array-itself (list_of array)) in
      (λ i. (near i && e n i) || h x l n i) ∙ sym (set.contains-insert o known v n)
