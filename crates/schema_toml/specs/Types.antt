-- The types of a schema as TOML tables: the keys of each in the order in which they are visited (this project's profile).
use Rattle.std.specs.Prelude.{ℕ, ℤ, Option, Some, None, List, [], ◌∷◌, Ok, Err, codes}
use Rattle.toml.specs.Data.{Data}
use Rattle.sbe_prim.specs.declared.Primitive.{Primitive}
use Rattle.schema_types.specs.declared.types.TypeDef.{TypeDef}
use Rattle.schema_types.specs.declared.types.TypeKind.{TypeKind}
use Rattle.schema_types.specs.declared.types.TypeKind.TheVariants.{Number, Enum, Set, Composite}
use Rattle.schema_types.specs.declared.types.ValueDef.{ValueDef}
use Rattle.schema_types.specs.declared.types.BitDef.{BitDef}
use Rattle.schema_types.specs.declared.types.MemberDef.{MemberDef}
use Rattle.schema_types.specs.declared.types.Presence.TheVariants.{Required}
use Rattle.toml_walk.specs.Reading.{Read, ◌>>=◌}
use Rattle.toml_walk.specs.Keys.{required, get_or_default, optional, list_of, table_of, deny_unknown_keys}
use Rattle.toml_walk.specs.Values.{text_of, name_of, number_of, natural_of, word_in, listed}
use Rattle.schema_toml.specs.declared.types.Kind.{Kind}
use Rattle.schema_toml.specs.declared.types.Kind.TheVariants as kinds
use Rattle.schema_toml.specs.Words.{primitive_of, presence_of, constant_of}

-- {name, value}
abbrev pub value_keys : Data → Read ValueDef
value_keys keys =
    required (codes "name") name_of keys >>= λ name.
    required (codes "value") number_of keys >>= λ value.
    deny_unknown_keys (codes "name" ∷ codes "value" ∷ []) keys >>= λ _.
    Ok (record { name = name; value = value })

abbrev pub value_of : Data → Read ValueDef
value_of = table_of value_keys

-- {name, bit}
abbrev pub bit_keys : Data → Read BitDef
bit_keys keys =
    required (codes "name") name_of keys >>= λ name.
    required (codes "bit") (natural_of 0 63) keys >>= λ bit.
    deny_unknown_keys (codes "name" ∷ codes "bit" ∷ []) keys >>= λ _.
    Ok (record { name = name; bit = bit })

abbrev pub bit_of : Data → Read BitDef
bit_of = table_of bit_keys

-- {name, type, offset?, presence?, value?}
abbrev pub member_keys : Data → Read MemberDef
member_keys keys =
    required (codes "name") name_of keys >>= λ name.
    required (codes "type") name_of keys >>= λ type_name.
    optional (codes "offset") number_of keys >>= λ offset.
    get_or_default (codes "presence") Required presence_of keys >>= λ presence.
    optional (codes "value") constant_of keys >>= λ value.
    deny_unknown_keys (codes "name" ∷ codes "type" ∷ codes "offset" ∷ codes "presence" ∷ codes "value" ∷ []) keys >>= λ _.
    Ok (record { name = name; type_name = type_name; offset = offset; presence = presence; value = value })

abbrev pub member_of : Data → Read MemberDef
member_of = table_of member_keys

-- {prim, length?, null?, min?, max?}, behind the keys of every type
abbrev pub number_kind : Data → Read TypeKind
number_kind keys =
    required (codes "prim") primitive_of keys >>= λ prim.
    get_or_default (codes "length") 1 (natural_of 1 16384) keys >>= λ length.
    optional (codes "null") number_of keys >>= λ null.
    optional (codes "min") number_of keys >>= λ least.
    optional (codes "max") number_of keys >>= λ greatest.
    deny_unknown_keys (codes "name" ∷ codes "kind" ∷ codes "prim" ∷ codes "length" ∷ codes "null" ∷ codes "min" ∷ codes "max" ∷ []) keys >>= λ _.
    Ok (Number prim length null least greatest)

-- {prim, values}
abbrev pub enum_kind : Data → Read TypeKind
enum_kind keys =
    required (codes "prim") primitive_of keys >>= λ prim.
    required (codes "values") (list_of value_of) keys >>= λ values.
    deny_unknown_keys (codes "name" ∷ codes "kind" ∷ codes "prim" ∷ codes "values" ∷ []) keys >>= λ _.
    Ok (Enum prim values)

-- {prim, bits}
abbrev pub set_kind : Data → Read TypeKind
set_kind keys =
    required (codes "prim") primitive_of keys >>= λ prim.
    required (codes "bits") (list_of bit_of) keys >>= λ bits.
    deny_unknown_keys (codes "name" ∷ codes "kind" ∷ codes "prim" ∷ codes "bits" ∷ []) keys >>= λ _.
    Ok (Set prim bits)

-- {members}
abbrev pub composite_kind : Data → Read TypeKind
composite_kind keys =
    required (codes "members") (list_of member_of) keys >>= λ members.
    deny_unknown_keys (codes "name" ∷ codes "kind" ∷ codes "members" ∷ []) keys >>= λ _.
    Ok (Composite members)

-- the word of a kind
abbrev pub kind_word_of : Data → Read Kind
kind_word_of d =
    text_of d >>= λ text.
    listed (word_in ((codes "number", kinds.Number) ∷ (codes "enum", kinds.Enum) ∷ (codes "set", kinds.Set) ∷ (codes "composite", kinds.Composite) ∷ []) text)

abbrev pub kind_keys : Kind → Data → Read TypeKind
kind_keys kinds.Number keys = number_kind keys
kind_keys kinds.Enum keys = enum_kind keys
kind_keys kinds.Set keys = set_kind keys
kind_keys kinds.Composite keys = composite_kind keys

-- {name, kind}, and then by the kind
abbrev pub type_keys : Data → Read TypeDef
type_keys keys =
    required (codes "name") name_of keys >>= λ name.
    required (codes "kind") kind_word_of keys >>= λ kind.
    kind_keys kind keys >>= λ made.
    Ok (record { name = name; kind = made })

abbrev pub type_of : Data → Read TypeDef
type_of = table_of type_keys
