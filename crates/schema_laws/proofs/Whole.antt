-- Each path at which a table stands is a place of the walk.
use Rattle.std.proofs.Common.{◌≡◌, ℕ, zero, suc, ◌+◌, ℤ, pos, Some, option_map, List, [], ◌∷◌, ◌++◌, refl, ap, ◌∙◌, arith, append_assoc}
use Rattle.sbe_schema.specs.declared.fault.TableArray.{TableArray}
use Rattle.schema_types.specs.declared.schema.Schema.{Schema}
use Rattle.schema_types.specs.declared.messages.MessageDef.{MessageDef}
use Rattle.schema_laws.specs.Standing.{Item, the_value, the_bit, the_member, the_field, the_data, in_kind, below_type, in_block, in_groups, below_message, and_then, in_schema, WalkLeavesNoneOut}
use Rattle.std.specs.List.{slice_get, Contains}
use Rattle.std.proofs.lemmas.List.Elements.{Contains-append_left, Contains-append_right}
use Rattle.std.specs.Int.{int_max}
use Rattle.std.specs.FinSet as set
use Rattle.sbe_prim.specs.declared.Primitive.{Primitive}
use Rattle.sbe_schema.specs.declared.fault.PathStep.{PathStep}
use Rattle.sbe_schema.specs.declared.fault.TableArray.TheVariants.{Types, Values, Bits, Members, Messages, Fields, Groups, Data}
use Rattle.sbe_schema.specs.declared.parent.Parent.{Parent}
use Rattle.schema_types.specs.declared.types.TypeDef.{TypeDef}
use Rattle.schema_types.specs.declared.types.TypeKind.{TypeKind}
use Rattle.schema_types.specs.declared.types.TypeKind.TheVariants.{Enum, Set, Composite}
use Rattle.schema_types.specs.declared.types.ValueDef.{ValueDef}
use Rattle.schema_types.specs.declared.types.BitDef.{BitDef}
use Rattle.schema_types.specs.declared.types.MemberDef.{MemberDef}
use Rattle.schema_types.specs.declared.messages.FieldDef.{FieldDef}
use Rattle.schema_types.specs.declared.messages.DataDef.{DataDef}
use Rattle.schema_types.specs.Groups.{GroupTree, no_groups, group}
use Rattle.sbe_schema.specs.Names.{Names, Numbers}
use Rattle.sbe_schema.specs.Offsets.{member_end, field_end}
use Rattle.sbe_schema.specs.Places.{Place}
use Rattle.sbe_schema.specs.Walk.{path_step, walk_values, walk_bits, walk_members, walk_kind, walk_types, walk_fields, walk_groups, walk_data, walk_block, walk_messages, root_of, walk, names_of_fields, names_of_groups, ids_of_fields, ids_of_groups, ids_of_data, entry_of}

abbrev Found : List Place → List PathStep → Type 0
Found ps path = (p : Place) × Contains ps p × (p.path_steps ≡ path)

found_head : (p : Place) (ps : List Place) (path : List PathStep) → p.path_steps ≡ path → Found (p ∷ ps) path
found_head p ps path e = (p, (0, omega arith, refl), e)

found_left : (ps qs : List Place) (path : List PathStep) → Found ps path → Found (ps ++ qs) path
found_left ps qs path f = (f.0, Contains-append_left ps qs f.0 f.1, f.2)

found_right : (ps qs : List Place) (path : List PathStep) → Found qs path → Found (ps ++ qs) path
found_right ps qs path f = (f.0, Contains-append_right ps qs f.0 f.1, f.2)

found_tail : (p : Place) (ps : List Place) (path : List PathStep) → Found ps path → Found (p ∷ ps) path
found_tail p ps path f = found_right (p ∷ []) ps path f

found_at : (ps : List Place) (path other : List PathStep) → path ≡ other → Found ps path → Found ps other
found_at ps path other e f = (f.0, f.1, f.2 ∙ e)

abbrev Within : List PathStep → TableArray → List PathStep → ℕ → List PathStep
Within base array path at = base ++ path_step array at ∷ path

-- the number of the first of a list, and of those behind it
here : (base : List PathStep) (array : TableArray) (path : List PathStep) (at : ℕ) → Within base array path at ≡ Within base array path (at + 0)
here base array path at = let same : at ≡ at + 0 = omega arith in ap (Within base array path) same

behind : (base : List PathStep) (array : TableArray) (path : List PathStep) (at i : ℕ) → Within base array path (at + 1 + i) ≡ Within base array path (at + suc i)
behind base array path at i = let same : at + 1 + i ≡ at + suc i = omega arith in ap (Within base array path) same

from_zero : (base : List PathStep) (array : TableArray) (path : List PathStep) (i : ℕ) → Within base array path (0 + i) ≡ Within base array path i
from_zero base array path i = let same : 0 + i ≡ i = omega arith in ap (Within base array path) same

values_found : (base : List PathStep) (prim : Primitive) (names : Names) (numbers : Numbers) (at : ℕ) (vs : List ValueDef) (i : ℕ) (item : Item)
    → option_map (the_value prim) (slice_get vs i) ≡ Some item → Found (walk_values base prim names numbers at vs) (base ++ path_step Values (at + i) ∷ [])
values_found base prim names numbers at [] i item e = absurd cc
values_found base prim names numbers at (v ∷ vs) zero item e = found_head _ _ _ (here base Values [] at)
values_found base prim names numbers at (v ∷ vs) (suc i) item e =
    found_tail _ _ _ (found_at _ _ _ (behind base Values [] at i) (values_found base prim (set.insert names v.name) (set.insert numbers v.value) (at + 1) vs i item e))

bits_found : (base : List PathStep) (prim : Primitive) (names : Names) (numbers : Numbers) (at : ℕ) (bs : List BitDef) (i : ℕ) (item : Item)
    → option_map (the_bit prim) (slice_get bs i) ≡ Some item → Found (walk_bits base prim names numbers at bs) (base ++ path_step Bits (at + i) ∷ [])
bits_found base prim names numbers at [] i item e = absurd cc
bits_found base prim names numbers at (b ∷ bs) zero item e = found_head _ _ _ (here base Bits [] at)
bits_found base prim names numbers at (b ∷ bs) (suc i) item e =
    found_tail _ _ _ (found_at _ _ _ (behind base Bits [] at i) (bits_found base prim (set.insert names b.name) (set.insert numbers (pos b.bit)) (at + 1) bs i item e))

members_found : (types : List TypeDef) (base : List PathStep) (names : Names) (end at : ℕ) (ms : List MemberDef) (i : ℕ) (item : Item)
    → option_map the_member (slice_get ms i) ≡ Some item → Found (walk_members types base names end at ms) (base ++ path_step Members (at + i) ∷ [])
members_found types base names end at [] i item e = absurd cc
members_found types base names end at (m ∷ ms) zero item e = found_head _ _ _ (here base Members [] at)
members_found types base names end at (m ∷ ms) (suc i) item e =
    found_tail _ _ _ (found_at _ _ _ (behind base Members [] at i) (members_found types base (set.insert names m.name) (member_end types end m) (at + 1) ms i item e))

kind_found : (types : List TypeDef) (base : List PathStep) (kind : TypeKind) (array : TableArray) (i : ℕ) (item : Item) → in_kind kind array i ≡ Some item → Found (walk_kind types base kind) (base ++ path_step array i ∷ [])
kind_found types base (Enum prim values) Values i item e = found_at _ _ _ (from_zero base Values [] i) (values_found base prim set.empty set.empty 0 values i item e)
kind_found types base (Set prim bits) Bits i item e = found_at _ _ _ (from_zero base Bits [] i) (bits_found base prim set.empty set.empty 0 bits i item e)
kind_found types base (Composite members) Members i item e = found_at _ _ _ (from_zero base Members [] i) (members_found types base set.empty 0 0 members i item e)
kind_found types base _ _ i item e = absurd cc

types_found : (types : List TypeDef) (names : Names) (at : ℕ) (ts : List TypeDef) (i : ℕ) (path : List PathStep) (item : Item)
    → and_then below_type (slice_get ts i) path ≡ Some item → Found (walk_types types names at ts) (path_step Types (at + i) ∷ path)
types_found types names at [] i path item e = absurd cc
types_found types names at (t ∷ ts) zero [] item e = found_head _ _ _ (here [] Types [] at)
types_found types names at (t ∷ ts) zero (s ∷ []) item e =
    let inside = walk_kind types (path_step Types at ∷ []) t.kind in
    found_tail _ _ _ (found_left inside _ _ (found_at inside (path_step Types at ∷ s ∷ []) _ (here [] Types (s ∷ []) at) (kind_found types (path_step Types at ∷ []) t.kind s.array s.at item e)))
types_found types names at (t ∷ ts) zero (s ∷ w ∷ ws) item e = absurd cc
types_found types names at (t ∷ ts) (suc i) path item e =
    let inside = walk_kind types (path_step Types at ∷ []) t.kind in
    found_tail _ _ _ (found_right inside _ _ (found_at _ _ _ (behind [] Types path at i) (types_found types (set.insert names t.name) (at + 1) ts i path item e)))

-- ---- blocks

fields_found : (types : List TypeDef) (base : List PathStep) (names : Names) (ids : Numbers) (least_since : ℤ) (end at : ℕ) (fs : List FieldDef) (i : ℕ) (item : Item)
    → option_map the_field (slice_get fs i) ≡ Some item → Found (walk_fields types base names ids least_since end at fs) (base ++ path_step Fields (at + i) ∷ [])
fields_found types base names ids least_since end at [] i item e = absurd cc
fields_found types base names ids least_since end at (f ∷ fs) zero item e = found_head _ _ _ (here base Fields [] at)
fields_found types base names ids least_since end at (f ∷ fs) (suc i) item e =
    found_tail _ _ _ (found_at _ _ _ (behind base Fields [] at i) (fields_found types base (set.insert names f.name) (set.insert ids (pos f.id)) (int_max least_since f.since) (field_end types end f) (at + 1) fs i item e))

data_found : (base : List PathStep) (parent : Parent) (names : Names) (ids : Numbers) (least_since : ℤ) (at : ℕ) (ds : List DataDef) (i : ℕ) (item : Item)
    → option_map the_data (slice_get ds i) ≡ Some item → Found (walk_data base parent names ids least_since at ds) (base ++ path_step Data (at + i) ∷ [])
data_found base parent names ids least_since at [] i item e = absurd cc
data_found base parent names ids least_since at (d ∷ ds) zero item e = found_head _ _ _ (here base Data [] at)
data_found base parent names ids least_since at (d ∷ ds) (suc i) item e =
    found_tail _ _ _ (found_at _ _ _ (behind base Data [] at i) (data_found base parent (set.insert names d.name) (set.insert ids (pos d.id)) (int_max least_since d.since) (at + 1) ds i item e))

-- what is owed of the groups of a block
abbrev GroupsFound : List TypeDef → List PathStep → Parent → Names → Numbers → ℤ → ℕ → GroupTree → Type 0
GroupsFound types base parent names ids least_since at tree =
    (i : ℕ) (path : List PathStep) (item : Item) → in_groups tree i path ≡ Some item → Found (walk_groups types base parent names ids least_since at tree) (base ++ path_step Groups (at + i) ∷ path)

block_found : (types : List TypeDef) (base : List PathStep) (parent : Parent) (ids : Numbers) (fields : List FieldDef) (tree : GroupTree) (vars : List DataDef)
    → GroupsFound types base parent (names_of_fields set.empty fields) (ids_of_fields ids fields) parent.since 0 tree
    → (array : TableArray) (i : ℕ) (path : List PathStep) (item : Item) → in_block fields (in_groups tree) vars array i path ≡ Some item → Found (walk_block types base parent ids fields tree vars) (base ++ path_step array i ∷ path)
block_found types base parent ids fields tree vars groups_are Fields i [] item e =
    found_left (walk_fields types base set.empty ids parent.since 0 0 fields) _ _ (found_at _ _ _ (from_zero base Fields [] i) (fields_found types base set.empty ids parent.since 0 0 fields i item e))
block_found types base parent ids fields tree vars groups_are Groups i path item e =
    let field_names : Names = names_of_fields set.empty fields in
    let field_ids : Numbers = ids_of_fields ids fields in
    found_right (walk_fields types base set.empty ids parent.since 0 0 fields) _ _ (found_left (walk_groups types base parent field_names field_ids parent.since 0 tree) _ _ (found_at _ _ _ (from_zero base Groups path i) (groups_are i path item e)))
block_found types base parent ids fields tree vars groups_are Data i [] item e =
    let field_names : Names = names_of_fields set.empty fields in
    let field_ids : Numbers = ids_of_fields ids fields in
    found_right (walk_fields types base set.empty ids parent.since 0 0 fields) _ _ (found_right (walk_groups types base parent field_names field_ids parent.since 0 tree) _ _ (found_at _ _ _ (from_zero base Data [] i) (data_found base parent (names_of_groups field_names tree) (ids_of_groups field_ids tree) parent.since 0 vars i item e)))
block_found types base parent ids fields tree vars groups_are _ i path item e = absurd cc

groups_found : (types : List TypeDef) (base : List PathStep) (parent : Parent) (names : Names) (ids : Numbers) (least_since : ℤ) (at : ℕ) (tree : GroupTree)
    (i : ℕ) (path : List PathStep) (item : Item) → in_groups tree i path ≡ Some item → Found (walk_groups types base parent names ids least_since at tree) (base ++ path_step Groups (at + i) ∷ path)
groups_found types base parent names ids least_since at no_groups i path item e = absurd cc
groups_found types base parent names ids least_since at (group g inner rest) zero [] item e = found_head _ _ _ (here base Groups [] at)
groups_found types base parent names ids least_since at (group g inner rest) zero (s ∷ path) item e =
    let below : List PathStep = base ++ path_step Groups at ∷ [] in
    let entry : Parent = entry_of parent g in
    let field_names : Names = names_of_fields set.empty g.fields in
    let field_ids : Numbers = ids_of_fields (set.insert ids (pos g.id)) g.fields in
    let block : List Place = walk_block types below entry (set.insert ids (pos g.id)) g.fields inner g.vars in
    let found = block_found types below entry (set.insert ids (pos g.id)) g.fields inner g.vars (groups_found types below entry field_names field_ids g.since 0 inner) s.array s.at path item e in
    found_tail _ _ _ (found_left block _ _ (found_at block ((base ++ path_step Groups at ∷ []) ++ s ∷ path) (base ++ path_step Groups (at + 0) ∷ s ∷ path) (append_assoc base (path_step Groups at ∷ []) (s ∷ path) ∙ here base Groups (s ∷ path) at) found))
groups_found types base parent names ids least_since at (group g inner rest) (suc i) path item e =
    let below : List PathStep = base ++ path_step Groups at ∷ [] in
    let entry : Parent = entry_of parent g in
    let field_ids : Numbers = ids_of_fields (set.insert ids (pos g.id)) g.fields in
    let group_ids : Numbers = ids_of_groups field_ids inner in
    let block : List Place = walk_block types below entry (set.insert ids (pos g.id)) g.fields inner g.vars in
    found_tail _ _ _ (found_right block _ _ (found_at _ _ _ (behind base Groups path at i) (groups_found types base parent (set.insert names g.name) (ids_of_data group_ids g.vars) (int_max least_since g.since) (at + 1) rest i path item e)))

messages_found : (types : List TypeDef) (names : Names) (ids : Numbers) (at : ℕ) (ms : List MessageDef) (i : ℕ) (path : List PathStep) (item : Item)
    → and_then below_message (slice_get ms i) path ≡ Some item → Found (walk_messages types names ids at ms) (path_step Messages (at + i) ∷ path)
messages_found types names ids at [] i path item e = absurd cc
messages_found types names ids at (m ∷ ms) zero [] item e = found_head _ _ _ (here [] Messages [] at)
messages_found types names ids at (m ∷ ms) zero (s ∷ path) item e =
    let below : List PathStep = path_step Messages at ∷ [] in
    let block : List Place = walk_block types below (root_of m) set.empty m.fields m.groups m.vars in
    let found = block_found types below (root_of m) set.empty m.fields m.groups m.vars (groups_found types below (root_of m) (names_of_fields set.empty m.fields) (ids_of_fields set.empty m.fields) m.since 0 m.groups) s.array s.at path item e in
    found_tail _ _ _ (found_left block _ _ (found_at block (path_step Messages at ∷ s ∷ path) (path_step Messages (at + 0) ∷ s ∷ path) (here [] Messages (s ∷ path) at) found))
messages_found types names ids at (m ∷ ms) (suc i) path item e =
    let block : List Place = walk_block types (path_step Messages at ∷ []) (root_of m) set.empty m.fields m.groups m.vars in
    found_tail _ _ _ (found_right block _ _ (found_at _ _ _ (behind [] Messages path at i) (messages_found types (set.insert names m.name) (set.insert ids (pos m.id)) (at + 1) ms i path item e)))

-- ---- the whole walk

found_in_schema : (schema : Schema) (array : TableArray) (i : ℕ) (path : List PathStep) (item : Item) → in_schema schema array i path ≡ Some item → Found (walk schema) (path_step array i ∷ path)
unfolding walk
found_in_schema schema Types i path item e =
    found_tail _ _ _ (found_left (walk_types schema.types set.empty 0 schema.types) _ _ (found_at _ _ _ (from_zero [] Types path i) (types_found schema.types set.empty 0 schema.types i path item e)))
found_in_schema schema Messages i path item e =
    found_tail _ _ _ (found_right (walk_types schema.types set.empty 0 schema.types) _ _ (found_at _ _ _ (from_zero [] Messages path i) (messages_found schema.types set.empty set.empty 0 schema.messages i path item e)))
found_in_schema schema _ i path item e = absurd cc

pub walk_leaves_none_out : WalkLeavesNoneOut
walk_leaves_none_out schema [] item e = absurd cc
walk_leaves_none_out schema (s ∷ path) item e = found_in_schema schema s.array s.at path item e
