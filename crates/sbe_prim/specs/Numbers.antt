-- The number that bytes spell (SBE 1.0, "Integer encoding" and "Byte order").
use Rattle.std.specs.Prelude.{◌≡◌, ℕ, ℤ, pos, IsTrue, List, length, if◌then◌else◌}
use Rattle.std.specs.Int.{Width, from_le_bytes, from_be_bytes, to_le_bytes, to_be_bytes, cast_signed, cast_unsigned}
use Rattle.sbe_prim.specs.declared.Primitive.{Primitive}
use Rattle.sbe_prim.specs.declared.Order.{Order}
use Rattle.sbe_prim.specs.declared.Order.TheVariants.{Little, Big}
use Rattle.sbe_prim.specs.Primitives.{width_of, size_of, is_signed, holds}

-- the sum of the bytes, each times 256 to the power of its place from the least significant one
abbrev pub magnitude_of : Width → Order → List ℕ → ℕ
magnitude_of w Little bytes = from_le_bytes w bytes
magnitude_of w Big bytes = from_be_bytes w bytes

-- the whole number that bytes spell: that sum, read as two's complement where the primitive is signed
abbrev pub number_of : Primitive → Order → List ℕ → ℤ
number_of p order bytes =
    if is_signed p then cast_signed (width_of p) (magnitude_of (width_of p) order bytes) else pos (magnitude_of (width_of p) order bytes)

-- the bytes of a magnitude
abbrev pub spelled : Width → Order → ℕ → List ℕ
spelled w Little n = to_le_bytes w n
spelled w Big n = to_be_bytes w n

-- the bytes that spell a number
abbrev pub bytes_of : Primitive → Order → ℤ → List ℕ
bytes_of p order z = spelled (width_of p) order (cast_unsigned (width_of p) z)

-- the bytes of a number that the primitive holds spell this number, and are as many as its size
pub record ReadsBack (p : Primitive) (order : Order) (z : ℤ) : Type 0 where
  pub number : number_of p order (bytes_of p order z) ≡ z
  pub size : length (bytes_of p order z) ≡ size_of p

-- bytes, as many as the primitive's size, are the bytes of a number that it holds: the one that they spell
pub record WritesBack (p : Primitive) (order : Order) (bytes : List ℕ) : Type 0 where
  pub held : IsTrue (holds p (number_of p order bytes))
  pub bytes_again : bytes_of p order (number_of p order bytes) ≡ bytes
