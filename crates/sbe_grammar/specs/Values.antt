-- The value of an item by the bytes that it has in its block (SBE 1.0, "Field encoding", "Null values", "Fixed-length data").
use Rattle.std.specs.Prelude.{ℕ, ℤ, pos, int_lt, nat_le, Bool, not, ◌&&◌, ◌==◌, if◌then◌else◌, Option, Some, None, List, length, map, take, drop}
use Rattle.std.specs.Ordering.{int_eq}
use Rattle.std.specs.List.{take_while}
use Rattle.sbe_prim.specs.declared.Primitive.{Primitive}
use Rattle.sbe_prim.specs.declared.Primitive.TheVariants.{Char, Int8, Int16, Int32, Int64, UInt8, UInt16, UInt32, UInt64, Float, Double}
use Rattle.sbe_prim.specs.declared.Order.{Order}
use Rattle.sbe_prim.specs.Primitives.{is_integer, null_of, size_of}
use Rattle.sbe_prim.specs.Numbers.{number_of}
use Rattle.sbe_value.specs.declared.item.Item.{Item}
use Rattle.sbe_value.specs.declared.item.Item.TheVariants.{Num, Null, Absent, Text, Raw}
use Rattle.schema_types.specs.declared.types.Presence.{Presence}
use Rattle.schema_types.specs.declared.types.Presence.TheVariants.{Required, Optional, Constant}
use Rattle.sbe_layout.specs.declared.items.ItemKind.{ItemKind}
use Rattle.sbe_layout.specs.declared.items.ItemKind.TheVariants.{Number, Enum, Set}
use Rattle.sbe_layout.specs.declared.items.ItemPlan.{ItemPlan}

-- a message of this version has what came with the version `since`
abbrev pub is_in : ℕ → ℤ → Bool
is_in version since = not (int_lt (pos version) since)

-- the number that stands for no value: the stated one, or the primitive's
abbrev pub null_by : Primitive → Option ℤ → ℤ
null_by p None = null_of p
null_by p (Some stated) = stated

-- an optional number that is the null one is not set; the null of a number that is no optional one is a number like another
abbrev pub number_or_null : Presence → ℤ → ℤ → Item
number_or_null Required null z = Num z
number_or_null Optional null z = if int_eq z null then Null else Num z
number_or_null Constant null z = Num z

-- what the integer of a primitive's bytes makes; a float or a double is carried as its bytes, and so would be a number
-- whose bytes were not all there, which no plan of a schema has
abbrev pub of_integer : Order → Primitive → (ℤ → Item) → List ℕ → Item
of_integer order p made bytes =
    if is_integer p && (length bytes == size_of p) then made (number_of p order bytes) else Raw bytes

-- the text before the first NUL
abbrev pub text_in : List ℕ → List ℕ
text_in bytes = take_while (λ byte. not (byte == 0)) bytes

-- an array of characters is a text, and any other its bytes
abbrev pub array_value : Primitive → List ℕ → Item
array_value Char bytes = Text (text_in bytes)
array_value Int8 bytes = Raw bytes
array_value Int16 bytes = Raw bytes
array_value Int32 bytes = Raw bytes
array_value Int64 bytes = Raw bytes
array_value UInt8 bytes = Raw bytes
array_value UInt16 bytes = Raw bytes
array_value UInt32 bytes = Raw bytes
array_value UInt64 bytes = Raw bytes
array_value Float bytes = Raw bytes
array_value Double bytes = Raw bytes

-- by the item's type: the raw number of an enum or a set
abbrev pub value_by : Order → Presence → ItemKind → List ℕ → Item
value_by order presence (Number p count null low high) bytes =
    if nat_le 2 count then array_value p bytes else of_integer order p (number_or_null presence (null_by p null)) bytes
value_by order presence (Enum p at) bytes = of_integer order p Num bytes
value_by order presence (Set p at) bytes = of_integer order p Num bytes

-- the value of an item in a block of a message of that version
abbrev pub item_in : Order → ℕ → List ℕ → ItemPlan → Item
item_in order version block i =
    if is_in version i.since then value_by order i.presence i.kind (take i.size (drop i.offset block)) else Absent

-- the values of the items of a block, in schema order
abbrev pub items_in : Order → ℕ → List ℕ → List ItemPlan → List Item
items_in order version block plans = map (item_in order version block) plans
