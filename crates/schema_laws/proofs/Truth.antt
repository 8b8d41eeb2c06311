-- At each place of the walk stands what the schema has at its path.
use Rattle.std.proofs.Common.{◌≡◌, ℕ, suc, ◌+◌, ℤ, pos, Option, option_map, List, [], ◌∷◌, ◌++◌, refl, ap, ◌∙◌, arith, append_assoc}
use Rattle.std.proofs.lemmas.List.Elements.{All-contains, All-from_recursion}
use Rattle.sbe_schema.specs.declared.fault.TableArray.{TableArray}
use Rattle.schema_types.specs.declared.schema.Schema.{Schema}
use Rattle.schema_types.specs.declared.messages.MessageDef.{MessageDef}
use Rattle.schema_laws.specs.Standing.{Item, the_value, the_bit, the_member, the_field, the_data, item_of, in_kind, below_type, in_block, in_groups, below_message, and_then, item_at, WalkTellsTruly}
use Rattle.schema_laws.proofs.Below.{all_append}
use Rattle.std.specs.List.{AllByRecursion, slice_get}
use Rattle.std.specs.Int.{int_max}
use Rattle.std.specs.FinSet as set
use Rattle.sbe_prim.specs.declared.Primitive.{Primitive}
use Rattle.sbe_schema.specs.declared.fault.PathStep.{PathStep}
use Rattle.sbe_schema.specs.declared.fault.TableArray.TheVariants.{Types, Values, Bits, Members, Messages, Fields, Groups, Data}
use Rattle.sbe_schema.specs.declared.parent.Parent.{Parent}
use Rattle.schema_types.specs.declared.types.TypeDef.{TypeDef}
use Rattle.schema_types.specs.declared.types.TypeKind.{TypeKind}
use Rattle.schema_types.specs.declared.types.TypeKind.TheVariants.{Number, Enum, Set, Composite}
use Rattle.schema_types.specs.declared.types.ValueDef.{ValueDef}
use Rattle.schema_types.specs.declared.types.BitDef.{BitDef}
use Rattle.schema_types.specs.declared.types.MemberDef.{MemberDef}
use Rattle.schema_types.specs.declared.messages.FieldDef.{FieldDef}
use Rattle.schema_types.specs.declared.messages.DataDef.{DataDef}
use Rattle.schema_types.specs.Groups.{GroupTree, no_groups, group}
use Rattle.sbe_schema.specs.Names.{Names, Numbers}
use Rattle.sbe_schema.specs.Offsets.{member_end, field_end}
use Rattle.sbe_schema.specs.Places.{Place}
use Rattle.sbe_schema.specs.Walk.{path_step, walk_values, walk_bits, walk_members, walk_kind, walk_types, walk_fields, walk_groups, walk_data, walk_block, walk_messages, root_of, walk, names_of_fields, names_of_groups, ids_of_fields, ids_of_groups, ids_of_data, entry_of}

abbrev IsTrueOf : Schema → Place → Type 0
IsTrueOf schema p = item_at schema p.path_steps ≡ item_of p.table

-- two lists agree from a number on
first : (f g : ℕ → Option Item) (at : ℕ) → ((i : ℕ) → f (at + i) ≡ g i) → f at ≡ g 0
first f g at h = let same : at ≡ at + 0 = omega arith in ap f same ∙ h 0

next : (f g : ℕ → Option Item) (at : ℕ) → ((i : ℕ) → f (at + i) ≡ g i) → (i : ℕ) → f (at + 1 + i) ≡ g (suc i)
next f g at h i = let same : at + 1 + i ≡ at + suc i = omega arith in ap f same ∙ h (suc i)

-- what stands at the places of one list
abbrev At : Schema → List PathStep → TableArray → ℕ → Option Item
At schema base array at = item_at schema (base ++ path_step array at ∷ [])

values_true : (schema : Schema) (base : List PathStep) (prim : Primitive) (names : Names) (numbers : Numbers) (at : ℕ) (vs : List ValueDef)
    → ((i : ℕ) → At schema base Values (at + i) ≡ option_map (the_value prim) (slice_get vs i)) → AllByRecursion (IsTrueOf schema) (walk_values base prim names numbers at vs)
values_true schema base prim names numbers at [] h = tt
values_true schema base prim names numbers at (v ∷ vs) h =
    let look : ℕ → Option Item = λ i. option_map (the_value prim) (slice_get (v ∷ vs) i) in
    (first (At schema base Values) look at h, values_true schema base prim (set.insert names v.name) (set.insert numbers v.value) (at + 1) vs (next (At schema base Values) look at h))

bits_true : (schema : Schema) (base : List PathStep) (prim : Primitive) (names : Names) (numbers : Numbers) (at : ℕ) (bs : List BitDef)
    → ((i : ℕ) → At schema base Bits (at + i) ≡ option_map (the_bit prim) (slice_get bs i)) → AllByRecursion (IsTrueOf schema) (walk_bits base prim names numbers at bs)
bits_true schema base prim names numbers at [] h = tt
bits_true schema base prim names numbers at (b ∷ bs) h =
    let look : ℕ → Option Item = λ i. option_map (the_bit prim) (slice_get (b ∷ bs) i) in
    (first (At schema base Bits) look at h, bits_true schema base prim (set.insert names b.name) (set.insert numbers (pos b.bit)) (at + 1) bs (next (At schema base Bits) look at h))

members_true : (schema : Schema) (types : List TypeDef) (base : List PathStep) (names : Names) (end at : ℕ) (ms : List MemberDef)
    → ((i : ℕ) → At schema base Members (at + i) ≡ option_map the_member (slice_get ms i)) → AllByRecursion (IsTrueOf schema) (walk_members types base names end at ms)
members_true schema types base names end at [] h = tt
members_true schema types base names end at (m ∷ ms) h =
    let look : ℕ → Option Item = λ i. option_map the_member (slice_get (m ∷ ms) i) in
    (first (At schema base Members) look at h, members_true schema types base (set.insert names m.name) (member_end types end m) (at + 1) ms (next (At schema base Members) look at h))

from_zero : (f g : ℕ → Option Item) → ((i : ℕ) → f i ≡ g i) → (i : ℕ) → f (0 + i) ≡ g i
from_zero f g h i = let same : 0 + i ≡ i = omega arith in ap f same ∙ h i

kind_true : (schema : Schema) (types : List TypeDef) (base : List PathStep) (kind : TypeKind)
    → ((array : TableArray) (i : ℕ) → At schema base array i ≡ in_kind kind array i) → AllByRecursion (IsTrueOf schema) (walk_kind types base kind)
kind_true schema types base (Number prim length null low high) h = tt
kind_true schema types base (Enum prim values) h = values_true schema base prim set.empty set.empty 0 values (from_zero (At schema base Values) (λ i. option_map (the_value prim) (slice_get values i)) (h Values))
kind_true schema types base (Set prim bits) h = bits_true schema base prim set.empty set.empty 0 bits (from_zero (At schema base Bits) (λ i. option_map (the_bit prim) (slice_get bits i)) (h Bits))
kind_true schema types base (Composite members) h = members_true schema types base set.empty 0 0 members (from_zero (At schema base Members) (λ i. option_map the_member (slice_get members i)) (h Members))

types_true : (schema : Schema) (types : List TypeDef) (names : Names) (at : ℕ) (ts : List TypeDef)
    → ((path : List PathStep) (i : ℕ) → item_at schema (path_step Types (at + i) ∷ path) ≡ and_then below_type (slice_get ts i) path) → AllByRecursion (IsTrueOf schema) (walk_types types names at ts)
types_true schema types names at [] h = tt
types_true schema types names at (t ∷ ts) h =
    let f : List PathStep → ℕ → Option Item = λ path i. item_at schema (path_step Types i ∷ path) in
    let g : List PathStep → ℕ → Option Item = λ path i. and_then below_type (slice_get (t ∷ ts) i) path in
    let here : (path : List PathStep) → f path at ≡ g path 0 = λ path. first (f path) (g path) at (h path) in
    (here [], all_append (IsTrueOf schema) _ _ (kind_true schema types (path_step Types at ∷ []) t.kind (λ array i. here (path_step array i ∷ []))) (types_true schema types (set.insert names t.name) (at + 1) ts (λ path. next (f path) (g path) at (h path))))

-- ---- blocks

fields_true : (schema : Schema) (types : List TypeDef) (base : List PathStep) (names : Names) (ids : Numbers) (least_since : ℤ) (end at : ℕ) (fs : List FieldDef)
    → ((i : ℕ) → At schema base Fields (at + i) ≡ option_map the_field (slice_get fs i)) → AllByRecursion (IsTrueOf schema) (walk_fields types base names ids least_since end at fs)
fields_true schema types base names ids least_since end at [] h = tt
fields_true schema types base names ids least_since end at (f ∷ fs) h =
    let look : ℕ → Option Item = λ i. option_map the_field (slice_get (f ∷ fs) i) in
    (first (At schema base Fields) look at h, fields_true schema types base (set.insert names f.name) (set.insert ids (pos f.id)) (int_max least_since f.since) (field_end types end f) (at + 1) fs (next (At schema base Fields) look at h))

data_true : (schema : Schema) (base : List PathStep) (parent : Parent) (names : Names) (ids : Numbers) (least_since : ℤ) (at : ℕ) (ds : List DataDef)
    → ((i : ℕ) → At schema base Data (at + i) ≡ option_map the_data (slice_get ds i)) → AllByRecursion (IsTrueOf schema) (walk_data base parent names ids least_since at ds)
data_true schema base parent names ids least_since at [] h = tt
data_true schema base parent names ids least_since at (d ∷ ds) h =
    let look : ℕ → Option Item = λ i. option_map the_data (slice_get (d ∷ ds) i) in
    (first (At schema base Data) look at h, data_true schema base parent (set.insert names d.name) (set.insert ids (pos d.id)) (int_max least_since d.since) (at + 1) ds (next (At schema base Data) look at h))

-- what is owed of the groups of a block
abbrev GroupsTrue : Schema → List TypeDef → List PathStep → Parent → Names → Numbers → ℤ → ℕ → GroupTree → Type 0
GroupsTrue schema types base parent names ids least_since at tree =
    ((path : List PathStep) (i : ℕ) → item_at schema (base ++ path_step Groups (at + i) ∷ path) ≡ in_groups tree i path) → AllByRecursion (IsTrueOf schema) (walk_groups types base parent names ids least_since at tree)

block_true : (schema : Schema) (types : List TypeDef) (base : List PathStep) (parent : Parent) (ids : Numbers) (fields : List FieldDef) (groups : GroupTree) (vars : List DataDef)
    → GroupsTrue schema types base parent (names_of_fields set.empty fields) (ids_of_fields ids fields) parent.since 0 groups
    → ((array : TableArray) (i : ℕ) (path : List PathStep) → item_at schema (base ++ path_step array i ∷ path) ≡ in_block fields (in_groups groups) vars array i path)
    → AllByRecursion (IsTrueOf schema) (walk_block types base parent ids fields groups vars)
block_true schema types base parent ids fields groups vars groups_are h =
    let field_names : Names = names_of_fields set.empty fields in
    let field_ids : Numbers = ids_of_fields ids fields in
    let one = fields_true schema types base set.empty ids parent.since 0 0 fields (from_zero (At schema base Fields) (λ i. option_map the_field (slice_get fields i)) (λ i. h Fields i [])) in
    let two = groups_are (λ path. from_zero (λ i. item_at schema (base ++ path_step Groups i ∷ path)) (λ i. in_groups groups i path) (λ i. h Groups i path)) in
    let three = data_true schema base parent (names_of_groups field_names groups) (ids_of_groups field_ids groups) parent.since 0 vars (from_zero (At schema base Data) (λ i. option_map the_data (slice_get vars i)) (λ i. h Data i [])) in
    all_append (IsTrueOf schema) _ _ one (all_append (IsTrueOf schema) _ _ two three)

groups_true : (schema : Schema) (types : List TypeDef) (base : List PathStep) (parent : Parent) (names : Names) (ids : Numbers) (least_since : ℤ) (at : ℕ) (tree : GroupTree) → GroupsTrue schema types base parent names ids least_since at tree
groups_true schema types base parent names ids least_since at no_groups h = tt
groups_true schema types base parent names ids least_since at (group g inner rest) h =
    let here : List PathStep = base ++ path_step Groups at ∷ [] in
    let entry : Parent = entry_of parent g in
    let field_names : Names = names_of_fields set.empty g.fields in
    let field_ids : Numbers = ids_of_fields (set.insert ids (pos g.id)) g.fields in
    let group_ids : Numbers = ids_of_groups field_ids inner in
    let f : List PathStep → ℕ → Option Item = λ path i. item_at schema (base ++ path_step Groups i ∷ path) in
    let k : List PathStep → ℕ → Option Item = λ path i. in_groups (group g inner rest) i path in
    let now : (path : List PathStep) → f path at ≡ k path 0 = λ path. first (f path) (k path) at (h path) in
    let inside : (array : TableArray) (i : ℕ) (path : List PathStep) → item_at schema ((base ++ path_step Groups at ∷ []) ++ path_step array i ∷ path) ≡ in_block g.fields (in_groups inner) g.vars array i path
    = λ array i path. ap (item_at schema) (append_assoc base (path_step Groups at ∷ []) (path_step array i ∷ path)) ∙ now (path_step array i ∷ path) in
    let block = block_true schema types here entry (set.insert ids (pos g.id)) g.fields inner g.vars (groups_true schema types here entry field_names field_ids g.since 0 inner) inside in
    let more = groups_true schema types base parent (set.insert names g.name) (ids_of_data group_ids g.vars) (int_max least_since g.since) (at + 1) rest (λ path. next (f path) (k path) at (h path)) in
    (now [], all_append (IsTrueOf schema) _ _ block more)

messages_true : (schema : Schema) (types : List TypeDef) (names : Names) (ids : Numbers) (at : ℕ) (ms : List MessageDef)
    → ((path : List PathStep) (i : ℕ) → item_at schema (path_step Messages (at + i) ∷ path) ≡ and_then below_message (slice_get ms i) path) → AllByRecursion (IsTrueOf schema) (walk_messages types names ids at ms)
messages_true schema types names ids at [] h = tt
messages_true schema types names ids at (m ∷ ms) h =
    let here : List PathStep = path_step Messages at ∷ [] in
    let f : List PathStep → ℕ → Option Item = λ path i. item_at schema (path_step Messages i ∷ path) in
    let k : List PathStep → ℕ → Option Item = λ path i. and_then below_message (slice_get (m ∷ ms) i) path in
    let now : (path : List PathStep) → f path at ≡ k path 0 = λ path. first (f path) (k path) at (h path) in
    let block = block_true schema types here (root_of m) set.empty m.fields m.groups m.vars (groups_true schema types here (root_of m) (names_of_fields set.empty m.fields) (ids_of_fields set.empty m.fields) m.since 0 m.groups) (λ array i path. now (path_step array i ∷ path)) in
    (now [], all_append (IsTrueOf schema) _ _ block (messages_true schema types (set.insert names m.name) (set.insert ids (pos m.id)) (at + 1) ms (λ path. next (f path) (k path) at (h path))))

walk_true : (schema : Schema) → AllByRecursion (IsTrueOf schema) (walk schema)
unfolding walk
walk_true schema =
    let types = types_true schema schema.types set.empty 0 schema.types (λ path. from_zero (λ i. item_at schema (path_step Types i ∷ path)) (λ i. and_then below_type (slice_get schema.types i) path) (λ i. refl)) in
    let messages = messages_true schema schema.types set.empty set.empty 0 schema.messages (λ path. from_zero (λ i. item_at schema (path_step Messages i ∷ path)) (λ i. and_then below_message (slice_get schema.messages i) path) (λ i. refl)) in
    (refl, all_append (IsTrueOf schema) _ _ types messages)

pub walk_tells_truly : WalkTellsTruly
walk_tells_truly schema p c = All-contains (IsTrueOf schema) (walk schema) p (All-from_recursion (IsTrueOf schema) (walk schema) (walk_true schema)) c
