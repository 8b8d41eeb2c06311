-- What stands at a path of a schema: the path read against the schema's own lists, with no walk.
use Rattle.std.specs.Prelude.{◌≡◌, ℕ, zero, suc, Option, Some, None, option_map, List, [], ◌∷◌}
use Rattle.std.specs.List.{Contains, slice_get}
use Rattle.sbe_prim.specs.declared.Primitive.{Primitive}
use Rattle.sbe_schema.specs.declared.fault.PathStep.{PathStep}
use Rattle.sbe_schema.specs.declared.fault.TableArray.{TableArray}
use Rattle.sbe_schema.specs.declared.fault.TableArray.TheVariants.{Types, Values, Bits, Members, Messages, Fields, Groups, Data}
use Rattle.schema_types.specs.declared.schema.Schema.{Schema}
use Rattle.schema_types.specs.declared.types.TypeDef.{TypeDef}
use Rattle.schema_types.specs.declared.types.TypeKind.{TypeKind}
use Rattle.schema_types.specs.declared.types.TypeKind.TheVariants.{Enum, Set, Composite}
use Rattle.schema_types.specs.declared.types.ValueDef.{ValueDef}
use Rattle.schema_types.specs.declared.types.BitDef.{BitDef}
use Rattle.schema_types.specs.declared.types.MemberDef.{MemberDef}
use Rattle.schema_types.specs.declared.messages.MessageDef.{MessageDef}
use Rattle.schema_types.specs.declared.messages.FieldDef.{FieldDef}
use Rattle.schema_types.specs.declared.messages.DataDef.{DataDef}
use Rattle.schema_types.specs.Groups.{GroupHead, GroupTree, no_groups, group}
use Rattle.sbe_schema.specs.Places.{Place, Table, whole, type_table, value_table, bit_table, member_table, message_table, field_table, group_table, data_table}
use Rattle.sbe_schema.specs.Walk.{walk}
use Rattle.schema_laws.specs.Kept.{NoTwo}

-- a table as it stands in the schema's text; a value and a bit with the primitive of their type
pub data Item : Type 0 where
  the_type : TypeDef → Item
  the_value : Primitive → ValueDef → Item
  the_bit : Primitive → BitDef → Item
  the_member : MemberDef → Item
  the_message : MessageDef → Item
  the_field : FieldDef → Item
  the_group : GroupHead → Item
  the_data : DataDef → Item

-- the table of a place, without what its rules need of its surroundings
abbrev pub item_of : Table → Option Item
item_of whole = None
item_of (type_table t) = Some (the_type t)
item_of (value_table prim v) = Some (the_value prim v)
item_of (bit_table prim b) = Some (the_bit prim b)
item_of (member_table end m) = Some (the_member m)
item_of (message_table m) = Some (the_message m)
item_of (field_table least_since end f) = Some (the_field f)
item_of (group_table parent least_since g) = Some (the_group g)
item_of (data_table parent least_since d) = Some (the_data d)

-- the values of an enum, the bits of a set, the members of a composite
abbrev pub in_kind : TypeKind → TableArray → ℕ → Option Item
in_kind (Enum prim values) Values at = option_map (the_value prim) (slice_get values at)
in_kind (Set prim bits) Bits at = option_map (the_bit prim) (slice_get bits at)
in_kind (Composite members) Members at = option_map the_member (slice_get members at)
in_kind _ _ at = None

abbrev pub below_type : TypeDef → List PathStep → Option Item
below_type t [] = Some (the_type t)
below_type t (s ∷ []) = in_kind t.kind s.array s.at
below_type t (s ∷ w ∷ ws) = None

-- the fields, groups and data of a block
abbrev pub in_block : List FieldDef → (ℕ → List PathStep → Option Item) → List DataDef → TableArray → ℕ → List PathStep → Option Item
in_block fields groups vars Fields at [] = option_map the_field (slice_get fields at)
in_block fields groups vars Groups at path = groups at path
in_block fields groups vars Data at [] = option_map the_data (slice_get vars at)
in_block fields groups vars _ at path = None

-- the group of a number, and what lies in it
abbrev pub in_groups : GroupTree → ℕ → List PathStep → Option Item
in_groups no_groups at path = None
in_groups (group g inner rest) zero [] = Some (the_group g)
in_groups (group g inner rest) zero (s ∷ path) = in_block g.fields (in_groups inner) g.vars s.array s.at path
in_groups (group g inner rest) (suc at) path = in_groups rest at path

abbrev pub below_message : MessageDef → List PathStep → Option Item
below_message m [] = Some (the_message m)
below_message m (s ∷ path) = in_block m.fields (in_groups m.groups) m.vars s.array s.at path

abbrev pub and_then : {A : Type 0} → (A → List PathStep → Option Item) → Option A → List PathStep → Option Item
and_then f None path = None
and_then f (Some x) path = f x path

abbrev pub in_schema : Schema → TableArray → ℕ → List PathStep → Option Item
in_schema schema Types at path = and_then below_type (slice_get schema.types at) path
in_schema schema Messages at path = and_then below_message (slice_get schema.messages at) path
in_schema schema _ at path = None

-- what stands at a path, if anything
abbrev pub item_at : Schema → List PathStep → Option Item
item_at schema [] = None
item_at schema (s ∷ path) = in_schema schema s.array s.at path

-- At each place of the walk stands what the schema has at its path
abbrev pub WalkTellsTruly : Type 0
WalkTellsTruly = (schema : Schema) (p : Place) → Contains (walk schema) p → item_at schema p.path_steps ≡ item_of p.table

-- Each path at which a table stands is a place of the walk
abbrev pub WalkLeavesNoneOut : Type 0
WalkLeavesNoneOut = (schema : Schema) (path : List PathStep) (item : Item) → item_at schema path ≡ Some item → (p : Place) × Contains (walk schema) p
    × (p.path_steps ≡ path)

-- and no path is there twice
abbrev pub WalkRepeatsNone : Type 0
WalkRepeatsNone = (schema : Schema) → NoTwo (λ q p. q.path_steps ≡ p.path_steps) (walk schema)
