-- Bytes as parts that stand one behind another, and the numbers among them.
use Rattle.std.specs.Prelude.{◌≡◌, ℕ, ◌++◌, List, length}
use Rattle.sbe_prim.specs.declared.Primitive.{Primitive}
use Rattle.sbe_prim.specs.declared.Order.{Order}
use Rattle.sbe_prim.specs.Primitives.{size_of, width_of}
use Rattle.sbe_prim.specs.Numbers.{magnitude_of}

-- a part that is P, and behind it one that is Q
pub record Then (P Q : List ℕ → Type 0) (bytes : List ℕ) : Type 0 where
  pub front : List ℕ
  pub behind : List ℕ
  pub joined : bytes ≡ front ++ behind
  pub is_front : P front
  pub is_behind : Q behind

-- the number of bytes, as many as the primitive has; lengths and counts have no sign
abbrev pub unsigned : Order → Primitive → List ℕ → ℕ
unsigned order p bytes = magnitude_of (width_of p) order bytes

-- bytes, as many as the primitive has, spell the number
pub record IsNumber (order : Order) (p : Primitive) (n : ℕ) (bytes : List ℕ) : Type 0 where
  pub whole : length bytes ≡ size_of p
  pub number : unsigned order p bytes ≡ n
