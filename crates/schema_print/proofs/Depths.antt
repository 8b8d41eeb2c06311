-- How deep what is written of a schema nests.
use Rattle.std.proofs.Common.{◌≡◌, ℕ, ◌+◌, ◌*◌, ◌-◌, ◌≤◌, ◌^◌, Bool, true, false, cond, nat_le, ℤ, pos, negsuc, List, [], ◌∷◌, map, Option, Some, None, option_map, refl, arith}
use Rattle.std.specs.Fmt.{decimal}
use Rattle.sbe_prim.specs.declared.Order.{Order}
use Rattle.sbe_prim.specs.declared.Order.TheVariants.{Little, Big}
use Rattle.schema_types.specs.Groups.{GroupHead, GroupTree, no_groups, group}
use Rattle.schema_types.specs.declared.messages.DataDef.{DataDef}
use Rattle.schema_types.specs.declared.messages.FieldDef.{FieldDef}
use Rattle.schema_types.specs.declared.messages.MessageDef.{MessageDef}
use Rattle.schema_types.specs.declared.schema.Schema.{Schema}
use Rattle.schema_types.specs.declared.types.BitDef.{BitDef}
use Rattle.schema_types.specs.declared.types.Constant.{Constant}
use Rattle.schema_types.specs.declared.types.Constant.TheVariants.{Num, Text}
use Rattle.schema_types.specs.declared.types.MemberDef.{MemberDef}
use Rattle.schema_types.specs.declared.types.Presence.{Presence}
use Rattle.schema_types.specs.declared.types.Presence.TheVariants.{Required, Optional, Constant as Always}
use Rattle.schema_types.specs.declared.types.TypeDef.{TypeDef}
use Rattle.schema_types.specs.declared.types.TypeKind.{TypeKind}
use Rattle.schema_types.specs.declared.types.TypeKind.TheVariants.{Number, Enum, Set, Composite}
use Rattle.schema_types.specs.declared.types.ValueDef.{ValueDef}
use Rattle.toml.specs.Data.{Data, string, integer, no_members, depth, items_depth, members_depth}
use Rattle.toml.specs.View.{items_of}
use Rattle.schema_print.specs.Levels.{levels_of_groups, levels_of_messages, levels_of_schema}
use Rattle.schema_print.specs.Written.{Pairs, table_by, number_data, order_data, presence_data, constant_data, list_data, value_pairs, value_data, bit_pairs, bit_data, member_pairs, member_data, kind_pairs, type_pairs, type_data, field_pairs, field_data, datum_pairs, datum_data, group_pairs, group_data, groups_list, groups_data, message_pairs, message_data, schema_pairs, schema_members}
use Rattle.schema_print.proofs.WithKeys.{option_depth, deepest, depth-with_keys}

-- ---- what stands at a key by itself

number_by : (a b : Bool) (n : ℕ) → depth (cond a (integer (pos n)) (cond b (string (decimal n)) (integer (pos n)))) ≡ 0
number_by true b n = refl
number_by false true n = refl
number_by false false n = refl

below_by : (a : Bool) (n : ℕ) → depth (cond a (integer (negsuc n)) (integer (pos 0))) ≡ 0
below_by true n = refl
below_by false n = refl

number_flat : (z : ℤ) → depth (number_data z) ≡ 0
number_flat (pos n) = number_by (nat_le n (2 ^ 63 - 1)) (nat_le n (2 ^ 127 - 1)) n
number_flat (negsuc n) = below_by (nat_le n (2 ^ 63 - 1)) n

numbers_flat : (o : Option ℤ) → option_depth (option_map number_data o) ≡ 0
numbers_flat None = refl
numbers_flat (Some z) = number_flat z

constant_flat : (o : Option Constant) → option_depth (option_map constant_data o) ≡ 0
constant_flat None = refl
constant_flat (Some (Num z)) = number_flat z
constant_flat (Some (Text t)) = refl

presence_flat : (p : Presence) → depth (presence_data p) ≡ 0
presence_flat Required = refl
presence_flat Optional = refl
presence_flat Always = refl

order_flat : (o : Order) → depth (order_data o) ≡ 0
order_flat Little = refl
order_flat Big = refl

-- ---- tables and lists

table_depth : (most : ℕ) (ps : Pairs) → deepest ps ≤ most → depth (table_by ps) ≤ 1 + most
table_depth most ps below = omega (arith, depth-with_keys most ps no_members below (omega arith))

items_below : {A : Type 0} (write : A → Data) (most : ℕ) → ((a : A) → depth (write a) ≤ most) → (xs : List A) → items_depth (items_of (map write xs)) ≤ most
items_below write most below [] = omega arith
items_below write most below (x ∷ xs) = omega (arith, below x, items_below write most below xs)

list_below : {A : Type 0} (write : A → Data) (most : ℕ) → ((a : A) → depth (write a) ≤ most) → (xs : List A) → depth (list_data write xs) ≤ 1 + most
list_below write most below xs = omega (arith, items_below write most below xs)

value_depth : (v : ValueDef) → depth (value_data v) ≤ 1
value_depth v = table_depth 0 (value_pairs v) (rw (number_flat v.value) (omega arith))

bit_depth : (b : BitDef) → depth (bit_data b) ≤ 1
bit_depth b = table_depth 0 (bit_pairs b) (omega arith)

member_depth : (m : MemberDef) → depth (member_data m) ≤ 1
member_depth m = table_depth 0 (member_pairs m) (rw (numbers_flat m.offset, presence_flat m.presence, constant_flat m.value) (omega arith))

kind_depth : (k : TypeKind) → deepest (kind_pairs k) ≤ 2
kind_depth (Number prim length null low high) = rw (numbers_flat null, numbers_flat low, numbers_flat high) (omega arith)
kind_depth (Enum prim values) = omega (arith, list_below value_data 1 value_depth values)
kind_depth (Set prim bits) = omega (arith, list_below bit_data 1 bit_depth bits)
kind_depth (Composite members) = omega (arith, list_below member_data 1 member_depth members)

type_depth : (t : TypeDef) → depth (type_data t) ≤ 3
type_depth t = table_depth 2 (type_pairs t) (omega (arith, kind_depth t.kind))

field_depth : (f : FieldDef) → depth (field_data f) ≤ 1
field_depth f = table_depth 0 (field_pairs f) (rw (presence_flat f.presence, constant_flat f.value, numbers_flat f.offset, number_flat f.since) (omega arith))

datum_depth : (v : DataDef) → depth (datum_data v) ≤ 1
datum_depth v = table_depth 0 (datum_pairs v) (rw (number_flat v.since) (omega arith))

-- ---- groups

group_depth : (g : GroupHead) (inner : Data) (most : ℕ) → 2 ≤ most → depth inner ≤ most → depth (group_data g inner) ≤ 1 + most
group_depth g inner most some below =
    table_depth most (group_pairs g inner) (rw (number_flat g.since, numbers_flat g.block_length) (omega (arith, list_below field_data 1 field_depth g.fields, list_below datum_data 1 datum_depth g.vars)))

groups_depth : (tree : GroupTree) → items_depth (items_of (groups_list tree)) ≤ 2 * levels_of_groups tree + 2
groups_depth no_groups = omega arith
groups_depth (group g inner rest) =
    let below : depth (groups_data inner) ≤ 2 * levels_of_groups inner + 3 = omega (arith, groups_depth inner) in
    let here = group_depth g (groups_data inner) (2 * levels_of_groups inner + 3) (omega arith) below in
    omega (arith, here, groups_depth rest)

message_depth : (m : MessageDef) → depth (message_data m) ≤ 2 * levels_of_groups m.groups + 4
message_depth m =
    let below = table_depth (2 * levels_of_groups m.groups + 3) (message_pairs m)
    (rw (number_flat m.since, numbers_flat m.block_length) (omega (arith, groups_depth m.groups, list_below field_data 1 field_depth m.fields, list_below datum_data 1 datum_depth m.vars))) in
    omega arith

messages_depth : (ms : List MessageDef) → items_depth (items_of (map message_data ms)) ≤ 2 * levels_of_messages ms + 4
messages_depth [] = omega arith
messages_depth (m ∷ ms) = omega (arith, message_depth m, messages_depth ms)

-- a schema with few levels of groups is within what a reader of TOML takes
pub schema_depth : (s : Schema) → levels_of_schema s ≤ 16 → members_depth (schema_members s) ≤ 80
schema_depth s few =
    depth-with_keys 80 (schema_pairs s) no_members (rw (order_flat s.order) (omega (arith, list_below type_data 3 type_depth s.types, messages_depth s.messages))) (omega arith)
