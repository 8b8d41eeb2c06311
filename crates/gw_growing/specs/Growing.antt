-- What a file that grows keeps from one look to the next (this project's profile).
use Rattle.std.specs.Prelude.{◌≡◌, ℕ, List, take, Option, Some}

-- It told a content before that has the same bytes as this one in front of a place.
pub record HasFront (at : ℕ) (old : Option (List ℕ)) (content : List ℕ) : Type 0 where
  pub before : List ℕ
  pub told : old ≡ Some before
  pub same : take at content ≡ take at before
