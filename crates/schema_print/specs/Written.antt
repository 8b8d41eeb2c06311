-- The TOML data that a schema is written as: every key of a table but those of what is not there (this project's profile).
use Rattle.std.specs.Prelude.{ℕ, ◌-◌, ◌^◌, ℤ, pos, negsuc, nat_le, if◌then◌else◌, Option, Some, None, option_map, List, [], ◌∷◌, map, codes}
use Rattle.std.specs.Cmp.Lexicographic.{slice_cmp}
use Rattle.std.specs.Fmt.{decimal}
use Rattle.std.specs.Ordering.{nat_cmp, match_ordering}
use Rattle.std.specs.Str.{is_utf8}
use Rattle.toml.specs.Data.{Data, string, integer, array, table, Members, no_members, member}
use Rattle.toml.specs.View.{items_of}
use Rattle.sbe_prim.specs.declared.Order.{Order}
use Rattle.sbe_prim.specs.declared.Order.TheVariants.{Little, Big}
use Rattle.sbe_prim.specs.declared.Primitive.{Primitive}
use Rattle.schema_types.specs.Groups.{GroupHead, GroupTree, no_groups, group}
use Rattle.sbe_prim.specs.Names.{word_of}
use Rattle.schema_types.specs.declared.messages.DataDef.{DataDef}
use Rattle.schema_types.specs.declared.messages.FieldDef.{FieldDef}
use Rattle.schema_types.specs.declared.messages.MessageDef.{MessageDef}
use Rattle.schema_types.specs.declared.schema.Schema.{Schema}
use Rattle.schema_types.specs.declared.types.BitDef.{BitDef}
use Rattle.schema_types.specs.declared.types.Constant.{Constant}
use Rattle.schema_types.specs.declared.types.Constant.TheVariants.{Num, Text}
use Rattle.schema_types.specs.declared.types.MemberDef.{MemberDef}
use Rattle.schema_types.specs.declared.types.Presence.{Presence}
use Rattle.schema_types.specs.declared.types.Presence.TheVariants.{Required, Optional, Constant as Always}
use Rattle.schema_types.specs.declared.types.TypeDef.{TypeDef}
use Rattle.schema_types.specs.declared.types.TypeKind.{TypeKind}
use Rattle.schema_types.specs.declared.types.TypeKind.TheVariants.{Number, Enum, Set, Composite}
use Rattle.schema_types.specs.declared.types.ValueDef.{ValueDef}

-- ---- tables by their keys

-- the members, with a value at a key, among keys that ascend
unfoldable pub add_member : List ℕ → Data → Members → Members
add_member key d no_members = member key d no_members
add_member key d (member k e ms) =
    match_ordering (slice_cmp nat_cmp key k) (member key d (member k e ms)) (member k d ms) (member k e (add_member key d ms))

abbrev pub add_if : List ℕ → Option Data → Members → Members
add_if key None ms = ms
add_if key (Some d) ms = add_member key d ms

-- the members, with what there is at each of some keys
abbrev pub with_keys : Members → List (List ℕ × Option Data) → Members
with_keys ms [] = ms
with_keys ms (p ∷ ps) = with_keys (add_if p.0 p.1 ms) ps

-- keys, each with what lies at it, if it is there
abbrev pub Pairs : Type 0
Pairs = List (List ℕ × Option Data)

-- a table by its keys
abbrev pub table_by : Pairs → Data
table_by ps = table (with_keys no_members ps)

module _ {A : Type 0} where
  abbrev pub list_data : (A → Data) → List A → Data
  list_data write xs = array (items_of (map write xs))

-- ---- what stands at a key by itself

-- a text, where it is UTF-8
abbrev pub text_data : List ℕ → Data
text_data text = string (if is_utf8 text then text else [])

-- a number above the greatest TOML integer is a string of its decimal digits, as far as 128 bits hold it; and none is below the least
abbrev pub number_data : ℤ → Data
number_data (pos n) =
    if nat_le n (2 ^ 63 - 1) then integer (pos n) else if nat_le n (2 ^ 127 - 1) then string (decimal n) else integer (pos n)
number_data (negsuc n) = if nat_le n (2 ^ 63 - 1) then integer (negsuc n) else integer (pos 0)

abbrev pub natural_data : ℕ → Data
natural_data n = integer (pos n)

abbrev pub order_data : Order → Data
order_data Little = string (codes "little")
order_data Big = string (codes "big")

abbrev pub presence_data : Presence → Data
presence_data Required = string (codes "required")
presence_data Optional = string (codes "optional")
presence_data Always = string (codes "constant")

abbrev pub primitive_data : Primitive → Data
primitive_data p = text_data (word_of p)

abbrev pub constant_data : Constant → Data
constant_data (Num z) = number_data z
constant_data (Text text) = text_data text

-- ---- types

abbrev pub value_pairs : ValueDef → Pairs
value_pairs v =
    (codes "name", Some (text_data v.name)) ∷ (codes "value", Some (number_data v.value)) ∷ []

abbrev pub value_data : ValueDef → Data
value_data v = table_by (value_pairs v)

abbrev pub bit_pairs : BitDef → Pairs
bit_pairs b =
    (codes "name", Some (text_data b.name)) ∷ (codes "bit", Some (natural_data b.bit)) ∷ []

abbrev pub bit_data : BitDef → Data
bit_data b = table_by (bit_pairs b)

abbrev pub member_pairs : MemberDef → Pairs
member_pairs m =
    (codes "name", Some (text_data m.name)) ∷ (codes "type", Some (text_data m.type_name)) ∷ (codes "offset", option_map number_data m.offset)
    ∷ (codes "presence", Some (presence_data m.presence)) ∷ (codes "value", option_map constant_data m.value) ∷ []

abbrev pub member_data : MemberDef → Data
member_data m = table_by (member_pairs m)

-- the keys of a kind, behind the name of its type
abbrev pub kind_pairs : TypeKind → Pairs
kind_pairs (Number prim length null low high) =
    (codes "kind", Some (string (codes "number"))) ∷ (codes "prim", Some (primitive_data prim)) ∷ (codes "length", Some (natural_data length))
    ∷ (codes "null", option_map number_data null) ∷ (codes "min", option_map number_data low) ∷ (codes "max", option_map number_data high) ∷ []
kind_pairs (Enum prim values) =
    (codes "kind", Some (string (codes "enum"))) ∷ (codes "prim", Some (primitive_data prim)) ∷ (codes "values", Some (list_data value_data values)) ∷ []
kind_pairs (Set prim bits) =
    (codes "kind", Some (string (codes "set"))) ∷ (codes "prim", Some (primitive_data prim)) ∷ (codes "bits", Some (list_data bit_data bits)) ∷ []
kind_pairs (Composite members) =
    (codes "kind", Some (string (codes "composite"))) ∷ (codes "members", Some (list_data member_data members)) ∷ []

abbrev pub type_pairs : TypeDef → Pairs
type_pairs t = (codes "name", Some (text_data t.name)) ∷ kind_pairs t.kind

abbrev pub type_data : TypeDef → Data
type_data t = table_by (type_pairs t)

-- ---- messages

abbrev pub field_pairs : FieldDef → Pairs
field_pairs f =
    (codes "name", Some (text_data f.name)) ∷ (codes "id", Some (natural_data f.id)) ∷ (codes "type", Some (text_data f.type_name))
    ∷ (codes "presence", Some (presence_data f.presence)) ∷ (codes "value", option_map constant_data f.value)
    ∷ (codes "offset", option_map number_data f.offset) ∷ (codes "since", Some (number_data f.since)) ∷ []

abbrev pub field_data : FieldDef → Data
field_data f = table_by (field_pairs f)

abbrev pub datum_pairs : DataDef → Pairs
datum_pairs v =
    (codes "name", Some (text_data v.name)) ∷ (codes "id", Some (natural_data v.id)) ∷ (codes "length", Some (primitive_data v.length))
    ∷ (codes "since", Some (number_data v.since)) ∷ []

abbrev pub datum_data : DataDef → Data
datum_data v = table_by (datum_pairs v)

-- a group, beside the data of the groups of its entries
abbrev pub group_pairs : GroupHead → Data → Pairs
group_pairs g inner =
    (codes "name", Some (text_data g.name)) ∷ (codes "id", Some (natural_data g.id)) ∷ (codes "block_prim", Some (primitive_data g.block_prim))
    ∷ (codes "count_prim", Some (primitive_data g.count_prim)) ∷ (codes "since", Some (number_data g.since))
    ∷ (codes "block_length", option_map number_data g.block_length) ∷ (codes "fields", Some (list_data field_data g.fields))
    ∷ (codes "groups", Some inner) ∷ (codes "data", Some (list_data datum_data g.vars)) ∷ []

abbrev pub group_data : GroupHead → Data → Data
group_data g inner = table_by (group_pairs g inner)

abbrev pub groups_list : GroupTree → List Data
groups_list no_groups = []
groups_list (group g inner rest) = group_data g (array (items_of (groups_list inner))) ∷ groups_list rest

abbrev pub groups_data : GroupTree → Data
groups_data tree = array (items_of (groups_list tree))

abbrev pub message_pairs : MessageDef → Pairs
message_pairs m =
    (codes "name", Some (text_data m.name)) ∷ (codes "id", Some (natural_data m.id)) ∷ (codes "since", Some (number_data m.since))
    ∷ (codes "block_length", option_map number_data m.block_length) ∷ (codes "fields", Some (list_data field_data m.fields))
    ∷ (codes "groups", Some (groups_data m.groups)) ∷ (codes "data", Some (list_data datum_data m.vars)) ∷ []

abbrev pub message_data : MessageDef → Data
message_data m = table_by (message_pairs m)

-- ---- schemas

abbrev pub schema_pairs : Schema → Pairs
schema_pairs s =
    (codes "id", Some (natural_data s.id)) ∷ (codes "version", Some (natural_data s.version)) ∷ (codes "order", Some (order_data s.order))
    ∷ (codes "type", Some (list_data type_data s.types)) ∷ (codes "message", Some (list_data message_data s.messages)) ∷ []

abbrev pub schema_members : Schema → Members
schema_members s = with_keys no_members (schema_pairs s)
