-- The table of the primitive types (SBE 1.0, "Primitive encodings" and "Null values").
use Rattle.std.specs.Prelude.{ℕ, ℤ, pos, negsuc, int_lt, Bool, true, false, not, ◌&&◌, ◌||◌}
use Rattle.std.specs.Int.{Width, w8, w16, w32, w64}
use Rattle.sbe_prim.specs.declared.Primitive.{Primitive}
use Rattle.sbe_prim.specs.declared.Primitive.TheVariants.{Char, Int8, Int16, Int32, Int64, UInt8, UInt16, UInt32, UInt64, Float, Double}

-- how wide a primitive is
abbrev pub width_of : Primitive → Width
width_of Char = w8
width_of Int8 = w8
width_of Int16 = w16
width_of Int32 = w32
width_of Int64 = w64
width_of UInt8 = w8
width_of UInt16 = w16
width_of UInt32 = w32
width_of UInt64 = w64
width_of Float = w32
width_of Double = w64

-- the number of a primitive's bytes
abbrev pub size_of : Primitive → ℕ
size_of Char = 1
size_of Int8 = 1
size_of Int16 = 2
size_of Int32 = 4
size_of Int64 = 8
size_of UInt8 = 1
size_of UInt16 = 2
size_of UInt32 = 4
size_of UInt64 = 8
size_of Float = 4
size_of Double = 8

-- its bytes spell an integer
abbrev pub is_integer : Primitive → Bool
is_integer Char = true
is_integer Int8 = true
is_integer Int16 = true
is_integer Int32 = true
is_integer Int64 = true
is_integer UInt8 = true
is_integer UInt16 = true
is_integer UInt32 = true
is_integer UInt64 = true
is_integer Float = false
is_integer Double = false

-- its integers are two's complement
abbrev pub is_signed : Primitive → Bool
is_signed Char = false
is_signed Int8 = true
is_signed Int16 = true
is_signed Int32 = true
is_signed Int64 = true
is_signed UInt8 = false
is_signed UInt16 = false
is_signed UInt32 = false
is_signed UInt64 = false
is_signed Float = false
is_signed Double = false

-- the ends of what its bytes hold; -(n + 1) is written negsuc n
abbrev pub least_of : Primitive → ℤ
least_of Char = pos 0
least_of Int8 = negsuc 0x7f
least_of Int16 = negsuc 0x7fff
least_of Int32 = negsuc 0x7fffffff
least_of Int64 = negsuc 0x7fffffffffffffff
least_of UInt8 = pos 0
least_of UInt16 = pos 0
least_of UInt32 = pos 0
least_of UInt64 = pos 0
least_of Float = pos 0
least_of Double = pos 0

abbrev pub greatest_of : Primitive → ℤ
greatest_of Char = pos 0xff
greatest_of Int8 = pos 0x7f
greatest_of Int16 = pos 0x7fff
greatest_of Int32 = pos 0x7fffffff
greatest_of Int64 = pos 0x7fffffffffffffff
greatest_of UInt8 = pos 0xff
greatest_of UInt16 = pos 0xffff
greatest_of UInt32 = pos 0xffffffff
greatest_of UInt64 = pos 0xffffffffffffffff
greatest_of Float = pos 0
greatest_of Double = pos 0

-- the number that stands for no value: a character's 0, the least of a signed type, the greatest of an unsigned one
abbrev pub null_of : Primitive → ℤ
null_of Char = pos 0
null_of Int8 = least_of Int8
null_of Int16 = least_of Int16
null_of Int32 = least_of Int32
null_of Int64 = least_of Int64
null_of UInt8 = greatest_of UInt8
null_of UInt16 = greatest_of UInt16
null_of UInt32 = greatest_of UInt32
null_of UInt64 = greatest_of UInt64
null_of Float = pos 0
null_of Double = pos 0

-- a number lies between two others, these included
abbrev pub lies_within : ℤ → ℤ → ℤ → Bool
lies_within low high z = not (int_lt z low) && not (int_lt high z)

-- an integer primitive holds the numbers from its least to its greatest, and a float or a double holds every number
abbrev pub holds : Primitive → ℤ → Bool
holds p z = not (is_integer p) || lies_within (least_of p) (greatest_of p) z
