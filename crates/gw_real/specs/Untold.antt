-- A disk that tells nothing.
use Rattle.std.specs.Prelude.{◌≡◌, ℕ, List, None, Some, is_some}
use Rattle.std.proofs.Common.{ap}
use Rattle.std.proofs.lemmas.Bool.{false≢true}

-- it tells no content
pub tells_none : (content : List ℕ) → None ≡ Some content → ⊥
tells_none content is = false≢true (ap is_some is)
