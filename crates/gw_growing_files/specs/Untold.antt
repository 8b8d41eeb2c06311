-- A file that tells nothing.
use Rattle.std.specs.Prelude.{◌≡◌, ℕ, List, Option, None, Some}

-- it tells no content
pub tells_none : (content : List ℕ) → None ≡ Some content → ⊥
tells_none content e = cc (e)
