-- The first of some things in order of which something does not hold.
use Rattle.std.specs.Prelude.{◌≡◌, List, ◌∷◌, ◌++◌}
use Rattle.std.specs.List.{AllByRecursion}

-- it does not hold of this one, and holds of all before it
pub record IsFirst {K : Type 0} (order : List K) (Holds : K → Type 0) (k : K) : Type 0 where
  pub before : List K
  pub behind : List K
  pub whole : order ≡ before ++ k ∷ behind
  pub held : AllByRecursion Holds before
  pub fails : Holds k → ⊥
