-- The walk over a schema: types before messages, a table before what lies in it, depth first.
use Rattle.std.specs.Prelude.{ℕ, ◌+◌, min, ℤ, pos, Option, Some, None, List, [], ◌∷◌, ◌++◌}
use Rattle.std.specs.Int.{int_max, int_min}
use Rattle.std.specs.FinSet as set
use Rattle.sbe_prim.specs.declared.Primitive.{Primitive}
use Rattle.sbe_schema.specs.declared.fault.PathStep.{PathStep}
use Rattle.sbe_schema.specs.declared.fault.TableArray.{TableArray}
use Rattle.sbe_schema.specs.declared.fault.TableArray.TheVariants.{Types, Values, Bits, Members, Messages, Fields, Groups, Data}
use Rattle.sbe_schema.specs.declared.parent.Parent.{Parent}
use Rattle.schema_types.specs.declared.schema.Schema.{Schema}
use Rattle.schema_types.specs.declared.types.TypeDef.{TypeDef}
use Rattle.schema_types.specs.declared.types.TypeKind.{TypeKind}
use Rattle.schema_types.specs.declared.types.TypeKind.TheVariants.{Number, Enum, Set, Composite}
use Rattle.schema_types.specs.declared.types.ValueDef.{ValueDef}
use Rattle.schema_types.specs.declared.types.BitDef.{BitDef}
use Rattle.schema_types.specs.declared.types.MemberDef.{MemberDef}
use Rattle.schema_types.specs.declared.messages.MessageDef.{MessageDef}
use Rattle.schema_types.specs.declared.messages.FieldDef.{FieldDef}
use Rattle.schema_types.specs.declared.messages.DataDef.{DataDef}
use Rattle.schema_types.specs.declared.groups.GroupDef.{GroupDef}
use Rattle.schema_types.specs.Groups.{GroupHead, GroupTree, no_groups, group}
use Rattle.schema_types.specs.Views.{head_of}
use Rattle.sbe_schema.specs.Names.{Names, Numbers}
use Rattle.sbe_schema.specs.Offsets.{member_end, field_end}
use Rattle.sbe_schema.specs.Places.{Table, whole, type_table, value_table, bit_table, member_table, message_table, field_table, group_table, data_table, Place}

-- a table at its place in a list of what stands at `base`
abbrev pub path_step : TableArray → ℕ → PathStep
path_step array at = record { array = array; at = at }

abbrev pub place : List PathStep → TableArray → ℕ → Names → Numbers → Table → Place
place base array at names numbers table = record {
  path_steps = base ++ path_step array at ∷ [];
  names = names;
  numbers = numbers;
  table = table;
}

abbrev pub walk_values : List PathStep → Primitive → Names → Numbers → ℕ → List ValueDef → List Place
walk_values base prim names numbers at [] = []
walk_values base prim names numbers at (v ∷ vs) =
    place base Values at names numbers (value_table prim v) ∷ walk_values base prim (set.insert names v.name) (set.insert numbers v.value) (at + 1) vs

abbrev pub walk_bits : List PathStep → Primitive → Names → Numbers → ℕ → List BitDef → List Place
walk_bits base prim names numbers at [] = []
walk_bits base prim names numbers at (b ∷ bs) =
    place base Bits at names numbers (bit_table prim b) ∷ walk_bits base prim (set.insert names b.name) (set.insert numbers (pos b.bit)) (at + 1) bs

abbrev pub walk_members : List TypeDef → List PathStep → Names → ℕ → ℕ → List MemberDef → List Place
walk_members types base names end at [] = []
walk_members types base names end at (m ∷ ms) =
    place base Members at names set.empty (member_table end m) ∷ walk_members types base (set.insert names m.name) (member_end types end m) (at + 1) ms

abbrev pub walk_kind : List TypeDef → List PathStep → TypeKind → List Place
walk_kind types base (Number prim length null low high) = []
walk_kind types base (Enum prim values) = walk_values base prim set.empty set.empty 0 values
walk_kind types base (Set prim bits) = walk_bits base prim set.empty set.empty 0 bits
walk_kind types base (Composite members) = walk_members types base set.empty 0 0 members

-- a type and what lies in it
abbrev pub walk_type : List TypeDef → Names → ℕ → TypeDef → List Place
walk_type types names at t = place [] Types at names set.empty (type_table t) ∷ walk_kind types (path_step Types at ∷ []) t.kind

abbrev pub walk_types : List TypeDef → Names → ℕ → List TypeDef → List Place
walk_types types names at [] = []
walk_types types names at (t ∷ ts) = walk_type types names at t ++ walk_types types (set.insert names t.name) (at + 1) ts

-- ---- the elements of a block: its fields, then its groups, then its data

abbrev pub walk_fields : List TypeDef → List PathStep → Names → Numbers → ℤ → ℕ → ℕ → List FieldDef → List Place
walk_fields types base names ids least_since end at [] = []
walk_fields types base names ids least_since end at (f ∷ fs) =
    place base Fields at names ids (field_table least_since end f)
    ∷ walk_fields types base (set.insert names f.name) (set.insert ids (pos f.id)) (int_max least_since f.since) (field_end types end f) (at + 1) fs

abbrev pub walk_data : List PathStep → Parent → Names → Numbers → ℤ → ℕ → List DataDef → List Place
walk_data base parent names ids least_since at [] = []
walk_data base parent names ids least_since at (d ∷ ds) =
    place base Data at names ids (data_table parent least_since d)
    ∷ walk_data base parent (set.insert names d.name) (set.insert ids (pos d.id)) (int_max least_since d.since) (at + 1) ds

-- the names and the ids that fields, groups and data add to those before them; the ids of groups are those at every depth
abbrev pub names_of_fields : Names → List FieldDef → Names
names_of_fields names [] = names
names_of_fields names (f ∷ fs) = names_of_fields (set.insert names f.name) fs

abbrev pub ids_of_fields : Numbers → List FieldDef → Numbers
ids_of_fields ids [] = ids
ids_of_fields ids (f ∷ fs) = ids_of_fields (set.insert ids (pos f.id)) fs

abbrev pub ids_of_data : Numbers → List DataDef → Numbers
ids_of_data ids [] = ids
ids_of_data ids (d ∷ ds) = ids_of_data (set.insert ids (pos d.id)) ds

abbrev pub names_of_groups : Names → GroupTree → Names
names_of_groups names no_groups = names
names_of_groups names (group g inner rest) = names_of_groups (set.insert names g.name) rest

abbrev pub ids_of_groups : Numbers → GroupTree → Numbers
ids_of_groups ids no_groups = ids
ids_of_groups ids (group g inner rest) =
    ids_of_groups (ids_of_data (ids_of_groups (ids_of_fields (set.insert ids (pos g.id)) g.fields) inner) g.vars) rest

-- an entry of a group as the parent of its elements; the depth 4 stands for every greater one too
abbrev pub entry_of : Parent → GroupHead → Parent
entry_of parent g = record { depth = min (parent.depth + 1) 4; since = g.since; lowest = None }

abbrev pub walk_groups : List TypeDef → List PathStep → Parent → Names → Numbers → ℤ → ℕ → GroupTree → List Place
walk_groups types base parent names ids least_since at no_groups = []
walk_groups types base parent names ids least_since at (group g inner rest) =
    let here = base ++ path_step Groups at ∷ [] in
    let entry = entry_of parent g in
    let field_names = names_of_fields set.empty g.fields in
    let field_ids = ids_of_fields (set.insert ids (pos g.id)) g.fields in
    let group_ids = ids_of_groups field_ids inner in
    (place base Groups at names ids (group_table parent least_since g)
    ∷ (walk_fields types here set.empty (set.insert ids (pos g.id)) g.since 0 0 g.fields
    ++ (walk_groups types here entry field_names field_ids g.since 0 inner
    ++ walk_data here entry (names_of_groups field_names inner) group_ids g.since 0 g.vars)))
    ++ walk_groups types base parent (set.insert names g.name) (ids_of_data group_ids g.vars) (int_max least_since g.since) (at + 1) rest

-- the lowest since of a block's data
abbrev pub lower : ℤ → Option ℤ → ℤ
lower since None = since
lower since (Some other) = int_min since other

abbrev pub lowest_since : List DataDef → Option ℤ
lowest_since [] = None
lowest_since (d ∷ ds) = Some (lower d.since (lowest_since ds))

-- a message as the parent of its root block's elements
abbrev pub root_of : MessageDef → Parent
root_of m = record { depth = 0; since = m.since; lowest = lowest_since m.vars }

-- the elements of a block, with the ids before them
abbrev pub walk_block : List TypeDef → List PathStep → Parent → Numbers → List FieldDef → GroupTree → List DataDef → List Place
walk_block types base parent ids fields groups vars =
    let field_names = names_of_fields set.empty fields in
    let field_ids = ids_of_fields ids fields in
    walk_fields types base set.empty ids parent.since 0 0 fields
    ++ (walk_groups types base parent field_names field_ids parent.since 0 groups
    ++ walk_data base parent (names_of_groups field_names groups) (ids_of_groups field_ids groups) parent.since 0 vars)

abbrev pub ids_of_block : Numbers → List FieldDef → GroupTree → List DataDef → Numbers
ids_of_block ids fields groups vars = ids_of_data (ids_of_groups (ids_of_fields ids fields) groups) vars

-- a group and the elements of its entries
abbrev pub walk_group : List TypeDef → List PathStep → Parent → Names → Numbers → ℤ → ℕ → GroupDef → List Place
walk_group types base parent names ids least_since at g =
    place base Groups at names ids (group_table parent least_since (head_of g))
    ∷ walk_block types (base ++ path_step Groups at ∷ []) (entry_of parent (head_of g)) (set.insert ids (pos g.id)) g.fields g.groups g.vars

-- a message and the elements that lie in it
abbrev pub walk_message : List TypeDef → Names → Numbers → ℕ → MessageDef → List Place
walk_message types names ids at m =
    place [] Messages at names ids (message_table m) ∷ walk_block types (path_step Messages at ∷ []) (root_of m) set.empty m.fields m.groups m.vars

abbrev pub walk_messages : List TypeDef → Names → Numbers → ℕ → List MessageDef → List Place
walk_messages types names ids at [] = []
walk_messages types names ids at (m ∷ ms) =
    walk_message types names ids at m ++ walk_messages types (set.insert names m.name) (set.insert ids (pos m.id)) (at + 1) ms

unfoldable pub walk : Schema → List Place
walk schema =
    record { path_steps = []; names = set.empty; numbers = set.empty; table = whole }
    ∷ (walk_types schema.types set.empty 0 schema.types ++ walk_messages schema.types set.empty set.empty 0 schema.messages)
