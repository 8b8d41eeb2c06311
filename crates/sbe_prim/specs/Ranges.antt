-- The numbers of a primitive that may be written where a type states no range (SBE 1.0, "Primitive encodings", default ranges).
use Rattle.std.specs.Prelude.{ℤ, pos, negsuc}
use Rattle.sbe_prim.specs.declared.Primitive.{Primitive}
use Rattle.sbe_prim.specs.declared.Primitive.TheVariants.{Char, Int8, Int16, Int32, Int64, UInt8, UInt16, UInt32, UInt64, Float, Double}

-- a space; one above the null of a signed type; -(n + 1) is written negsuc n
abbrev pub default_least_of : Primitive → ℤ
default_least_of Char = pos 0x20
default_least_of Int8 = negsuc 0x7e
default_least_of Int16 = negsuc 0x7ffe
default_least_of Int32 = negsuc 0x7ffffffe
default_least_of Int64 = negsuc 0x7ffffffffffffffe
default_least_of UInt8 = pos 0
default_least_of UInt16 = pos 0
default_least_of UInt32 = pos 0
default_least_of UInt64 = pos 0
default_least_of Float = pos 0
default_least_of Double = pos 0

-- a tilde; one below the null of an unsigned type
abbrev pub default_greatest_of : Primitive → ℤ
default_greatest_of Char = pos 0x7e
default_greatest_of Int8 = pos 0x7f
default_greatest_of Int16 = pos 0x7fff
default_greatest_of Int32 = pos 0x7fffffff
default_greatest_of Int64 = pos 0x7fffffffffffffff
default_greatest_of UInt8 = pos 0xfe
default_greatest_of UInt16 = pos 0xfffe
default_greatest_of UInt32 = pos 0xfffffffe
default_greatest_of UInt64 = pos 0xfffffffffffffffe
default_greatest_of Float = pos 0
default_greatest_of Double = pos 0
