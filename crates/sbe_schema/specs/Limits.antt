-- How much a schema may have (this project's profile), and the values that a type holds (SBE 1.0, "Constant fields", "Range attributes").
use Rattle.std.specs.Prelude.{ℕ, ℤ, pos, int_lt, nat_lt, Bool, true, false, not, ◌||◌, ◌&&◌, Option, Some, None, is_some, List, length}
use Rattle.sbe_prim.specs.declared.Primitive.{Primitive}
use Rattle.sbe_prim.specs.Primitives.{holds}
use Rattle.sbe_schema.specs.declared.meaning.Meaning as meaning
use Rattle.sbe_schema.specs.declared.meaning.Meaning.TheVariants as means
use Rattle.schema_types.specs.declared.schema.Schema.{Schema}
use Rattle.schema_types.specs.declared.types.TypeDef.{TypeDef}
use Rattle.schema_types.specs.declared.types.TypeKind.{TypeKind}
use Rattle.schema_types.specs.declared.types.TypeKind.TheVariants.{Number, Enum, Set, Composite}
use Rattle.schema_types.specs.declared.types.Presence.{Presence}
use Rattle.schema_types.specs.declared.types.Presence.TheVariants.{Required, Optional, Constant as Fixed}
use Rattle.schema_types.specs.declared.types.Constant.{Constant}
use Rattle.schema_types.specs.declared.types.Constant.TheVariants.{Num, Text}
use Rattle.schema_types.specs.declared.messages.MessageDef.{MessageDef}
use Rattle.schema_types.specs.Groups.{GroupTree, no_groups, group}
use Rattle.sbe_schema.specs.Meanings.{meaning_of}
use Rattle.sbe_schema.specs.Offsets.{plus, block_length_of}
use Rattle.sbe_schema.specs.Kinds.{is_char, is_uint8}
use Rattle.sbe_schema.specs.Places.{Table, whole, type_table, value_table, bit_table, member_table, message_table, field_table, group_table, data_table}

-- how many elements lie in groups at every depth
abbrev pub count_of_groups : GroupTree → ℕ
count_of_groups no_groups = 0
count_of_groups (group g inner rest) = plus (plus (plus (length g.fields) (length g.vars)) (plus 1 (count_of_groups inner))) (count_of_groups rest)

-- the block lengths of groups at every depth, each once
abbrev pub blocks_of_groups : List TypeDef → GroupTree → ℕ
blocks_of_groups types no_groups = 0
blocks_of_groups types (group g inner rest) = plus (plus (block_length_of types g.block_length g.fields) (blocks_of_groups types inner))
    (blocks_of_groups types rest)

-- a message has at most 1,024 elements, and its blocks are at most 16,384 bytes together
abbrev pub is_large_message : List TypeDef → MessageDef → Bool
is_large_message types m =
    nat_lt 1024 (plus (plus (length m.fields) (length m.vars)) (count_of_groups m.groups))
    || nat_lt 16384 (plus (block_length_of types m.block_length m.fields) (blocks_of_groups types m.groups))

-- a number is stated, and is above a limit, or is one that the primitive does not hold
abbrev pub is_above : Option ℤ → ℕ → Bool
is_above None limit = false
is_above (Some z) limit = int_lt (pos limit) z

abbrev pub is_unheld : Primitive → Option ℤ → Bool
is_unheld prim None = false
is_unheld prim (Some z) = not (holds prim z)

-- an array is one of char or uint8, and a type's null, least and greatest are held by its primitive
abbrev pub is_large_kind : TypeKind → Bool
is_large_kind (Number prim length null low high) =
    (nat_lt 1 length && not (is_char prim || is_uint8 prim)) || (is_unheld prim null || (is_unheld prim low || is_unheld prim high))
is_large_kind (Enum prim values) = false
is_large_kind (Set prim bits) = false
is_large_kind (Composite members) = false

-- an array of characters
abbrev pub is_text : Primitive → ℕ → Bool
is_text prim length = is_char prim && nat_lt 1 length

-- a constant that its type does not hold: an array of characters holds a text of at most its length, and all else a number of its
-- primitive; a composite any number
abbrev pub is_unfit : meaning.Meaning → Constant → Bool
is_unfit means.Unknown value = false
is_unfit (means.Number prim length) (Num z) = is_text prim length || not (holds prim z)
is_unfit (means.Number prim count) (Text t) = not (is_text prim count) || nat_lt count (length t)
is_unfit (means.Code prim) (Num z) = not (holds prim z)
is_unfit (means.Code prim) (Text t) = true
is_unfit means.Composite (Num z) = false
is_unfit means.Composite (Text t) = true

-- a constant has a fitting value, and nothing else has a value
abbrev pub is_bad_value : meaning.Meaning → Presence → Option Constant → Bool
is_bad_value meaning Fixed None = true
is_bad_value meaning Fixed (Some value) = is_unfit meaning value
is_bad_value meaning Required value = is_some value
is_bad_value meaning Optional value = is_some value

abbrev pub is_over_limit : Schema → Table → Bool
is_over_limit schema whole = nat_lt 1024 (length schema.types) || nat_lt 256 (length schema.messages)
is_over_limit schema (type_table t) = is_large_kind t.kind
is_over_limit schema (value_table prim v) = false
is_over_limit schema (bit_table prim b) = false
is_over_limit schema (member_table end m) = is_bad_value (meaning_of schema.types m.type_name) m.presence m.value
is_over_limit schema (message_table m) = is_above m.block_length 16384 || is_large_message schema.types m
is_over_limit schema (field_table least_since end f) = is_bad_value (meaning_of schema.types f.type_name) f.presence f.value
is_over_limit schema (group_table parent least_since g) = is_above g.block_length 16384 || nat_lt 3 parent.depth
is_over_limit schema (data_table parent least_since d) = false
