-- Enums, sets, dimensions and data lengths that are refused (SBE 1.0, "Enumerations", "Multi-value choice", "Repeating group dimensions",
-- "Variable-length data").
use Rattle.std.specs.Prelude.{◌*◌, pos, int_lt, nat_lt, Bool, true, false, not, ◌||◌, ◌&&◌, List, [], ◌∷◌}
use Rattle.sbe_prim.specs.declared.Primitive.{Primitive}
use Rattle.sbe_prim.specs.declared.Primitive.TheVariants.{Char, UInt8, UInt16, UInt32, UInt64}
use Rattle.sbe_prim.specs.Primitives.{size_of, least_of, greatest_of, lies_within}
use Rattle.schema_types.specs.declared.types.TypeDef.{TypeDef}
use Rattle.schema_types.specs.declared.types.TypeKind.{TypeKind}
use Rattle.schema_types.specs.declared.types.TypeKind.TheVariants.{Number, Enum, Set, Composite}
use Rattle.schema_types.specs.declared.types.ValueDef.{ValueDef}
use Rattle.std.specs.FinSet as set
use Rattle.sbe_schema.specs.Names.{Numbers}
use Rattle.schema_types.specs.Groups.{GroupHead}
use Rattle.sbe_schema.specs.Offsets.{block_length_of}
use Rattle.sbe_schema.specs.Places.{Table, type_table, value_table, bit_table, group_table, data_table}

abbrev pub is_uint8 : Primitive → Bool
is_uint8 UInt8 = true
is_uint8 _ = false

abbrev pub is_uint16 : Primitive → Bool
is_uint16 UInt16 = true
is_uint16 _ = false

abbrev pub is_uint32 : Primitive → Bool
is_uint32 UInt32 = true
is_uint32 _ = false

abbrev pub is_uint64 : Primitive → Bool
is_uint64 UInt64 = true
is_uint64 _ = false

abbrev pub is_char : Primitive → Bool
is_char Char = true
is_char _ = false

abbrev pub is_empty : List ValueDef → Bool
is_empty [] = true
is_empty (v ∷ vs) = false

-- an enum is a char, uint8 or uint16 with at least one value
abbrev pub is_bad_enum_kind : TypeKind → Bool
is_bad_enum_kind (Enum prim values) = not (is_char prim || (is_uint8 prim || is_uint16 prim)) || is_empty values
is_bad_enum_kind (Number prim length null low high) = false
is_bad_enum_kind (Set prim bits) = false
is_bad_enum_kind (Composite members) = false

-- a value stands once, and between the ends of what its primitive's bytes hold
abbrev pub is_bad_enum : Numbers → Table → Bool
is_bad_enum numbers (type_table t) = is_bad_enum_kind t.kind
is_bad_enum numbers (value_table prim v) = set.contains numbers v.value || not (lies_within (least_of prim) (greatest_of prim) v.value)
is_bad_enum numbers _ = false

-- a set is an unsigned integer
abbrev pub is_bad_set_kind : TypeKind → Bool
is_bad_set_kind (Set prim bits) = not ((is_uint8 prim || is_uint16 prim) || (is_uint32 prim || is_uint64 prim))
is_bad_set_kind (Number prim length null low high) = false
is_bad_set_kind (Enum prim values) = false
is_bad_set_kind (Composite members) = false

-- a bit stands once, and below the width of its primitive
abbrev pub is_bad_set : Numbers → Table → Bool
is_bad_set numbers (type_table t) = is_bad_set_kind t.kind
is_bad_set numbers (bit_table prim b) = set.contains numbers (pos b.bit) || not (nat_lt b.bit (8 * size_of prim))
is_bad_set numbers _ = false

abbrev pub is_dimension : Primitive → Bool
is_dimension prim = is_uint8 prim || is_uint16 prim

-- a dimension is two of uint8 and uint16, the first of which holds the block length
abbrev pub is_unfit_dimension : List TypeDef → GroupHead → Bool
is_unfit_dimension types g =
    not (is_dimension g.block_prim && is_dimension g.count_prim) || int_lt (greatest_of g.block_prim) (pos (block_length_of types g.block_length g.fields))

abbrev pub is_bad_dimension : List TypeDef → Table → Bool
is_bad_dimension types (group_table parent least_since g) = is_unfit_dimension types g
is_bad_dimension types _ = false

-- the length of data is uint8, uint16 or uint32
abbrev pub is_bad_data : Table → Bool
is_bad_data (data_table parent least_since d) = not (is_dimension d.length || is_uint32 d.length)
is_bad_data _ = false
