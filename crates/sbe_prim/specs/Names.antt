-- The words by which a schema names the primitives (SBE 1.0, "Primitive encodings").
use Rattle.std.specs.Prelude.{ℕ, if◌then◌else◌, Option, Some, None, List, [], ◌∷◌, nat_eq, codes}
use Rattle.std.specs.Cmp.Lexicographic.{pointwise}
use Rattle.sbe_prim.specs.declared.Primitive.{Primitive}
use Rattle.sbe_prim.specs.declared.Primitive.TheVariants.{Char, Int8, Int16, Int32, Int64, UInt8, UInt16, UInt32, UInt64, Float, Double}

-- the word by which a schema names a primitive
abbrev pub word_of : Primitive → List ℕ
word_of Char = codes "char"
word_of Int8 = codes "int8"
word_of Int16 = codes "int16"
word_of Int32 = codes "int32"
word_of Int64 = codes "int64"
word_of UInt8 = codes "uint8"
word_of UInt16 = codes "uint16"
word_of UInt32 = codes "uint32"
word_of UInt64 = codes "uint64"
word_of Float = codes "float"
word_of Double = codes "double"

-- the first of these primitives that has a name
abbrev pub first_named : List ℕ → List Primitive → Option Primitive
first_named name [] = None
first_named name (p ∷ ps) = if pointwise nat_eq (word_of p) name then Some p else first_named name ps

-- the primitive of a name, if it is one's
unfoldable pub primitive_named : List ℕ → Option Primitive
primitive_named name =
    first_named name (Char ∷ Int8 ∷ Int16 ∷ Int32 ∷ Int64 ∷ UInt8 ∷ UInt16 ∷ UInt32 ∷ UInt64 ∷ Float ∷ Double ∷ [])
