-- Where the places of a walk lie: below the base that it is walked at.
use Rattle.std.proofs.Common.{◌≡◌, ℕ, ◌+◌, ℤ, pos, List, [], ◌∷◌, ◌++◌, refl, ◌∙◌, append_assoc}
use Rattle.std.specs.List.{AllByRecursion}
use Rattle.std.specs.Int.{int_max}
use Rattle.std.specs.FinSet as set
use Rattle.sbe_prim.specs.declared.Primitive.{Primitive}
use Rattle.sbe_schema.specs.declared.fault.PathStep.{PathStep}
use Rattle.sbe_schema.specs.declared.fault.TableArray.TheVariants.{Types, Values, Bits, Members, Fields, Groups, Data}
use Rattle.sbe_schema.specs.declared.parent.Parent.{Parent}
use Rattle.schema_types.specs.declared.types.TypeDef.{TypeDef}
use Rattle.schema_types.specs.declared.types.TypeKind.{TypeKind}
use Rattle.schema_types.specs.declared.types.TypeKind.TheVariants.{Number, Enum, Set, Composite}
use Rattle.schema_types.specs.declared.types.ValueDef.{ValueDef}
use Rattle.schema_types.specs.declared.types.BitDef.{BitDef}
use Rattle.schema_types.specs.declared.types.MemberDef.{MemberDef}
use Rattle.schema_types.specs.declared.messages.FieldDef.{FieldDef}
use Rattle.schema_types.specs.declared.messages.DataDef.{DataDef}
use Rattle.schema_types.specs.Groups.{GroupTree, no_groups, group}
use Rattle.sbe_schema.specs.Names.{Names, Numbers}
use Rattle.sbe_schema.specs.Offsets.{member_end, field_end}
use Rattle.sbe_schema.specs.Places.{Place}
use Rattle.sbe_schema.specs.Walk.{path_step, walk_values, walk_bits, walk_members, walk_kind, walk_types, walk_fields, walk_groups, walk_data, walk_block, names_of_fields, names_of_groups, ids_of_fields, ids_of_groups, ids_of_data, entry_of}

-- the path goes on below the base
abbrev pub Goes : List PathStep → List PathStep → Type 0
Goes base path = (x : PathStep) × (rest : List PathStep) × (path ≡ base ++ x ∷ rest)

abbrev pub Below : List PathStep → Place → Type 0
Below base p = Goes base p.path_steps

pub goes_up : (base : List PathStep) (y : PathStep) (path : List PathStep) → Goes (base ++ y ∷ []) path → Goes base path
goes_up base y path g = (y, g.0 ∷ g.1, g.2 ∙ append_assoc base (y ∷ []) (g.0 ∷ g.1))

pub below_up : (base : List PathStep) (y : PathStep) (ps : List Place) → AllByRecursion (Below (base ++ y ∷ [])) ps → AllByRecursion (Below base) ps
below_up base y [] a = tt
below_up base y (p ∷ ps) a = (goes_up base y p.path_steps a.0, below_up base y ps a.1)

pub all_append : (P : Place → Type 0) (ps qs : List Place) → AllByRecursion P ps → AllByRecursion P qs → AllByRecursion P (ps ++ qs)
all_append P [] qs a b = b
all_append P (p ∷ ps) qs a b = (a.0, all_append P ps qs a.1 b)

pub values_below : (base : List PathStep) (prim : Primitive) (names : Names) (numbers : Numbers) (at : ℕ) (vs : List ValueDef) → AllByRecursion (Below base) (walk_values base prim names numbers at vs)
values_below base prim names numbers at [] = tt
values_below base prim names numbers at (v ∷ vs) = ((path_step Values at, [], refl), values_below base prim (set.insert names v.name) (set.insert numbers v.value) (at + 1) vs)

pub bits_below : (base : List PathStep) (prim : Primitive) (names : Names) (numbers : Numbers) (at : ℕ) (bs : List BitDef) → AllByRecursion (Below base) (walk_bits base prim names numbers at bs)
bits_below base prim names numbers at [] = tt
bits_below base prim names numbers at (b ∷ bs) = ((path_step Bits at, [], refl), bits_below base prim (set.insert names b.name) (set.insert numbers (pos b.bit)) (at + 1) bs)

pub members_below : (types : List TypeDef) (base : List PathStep) (names : Names) (end at : ℕ) (ms : List MemberDef) → AllByRecursion (Below base) (walk_members types base names end at ms)
members_below types base names end at [] = tt
members_below types base names end at (m ∷ ms) = ((path_step Members at, [], refl), members_below types base (set.insert names m.name) (member_end types end m) (at + 1) ms)

pub kind_below : (types : List TypeDef) (base : List PathStep) (kind : TypeKind) → AllByRecursion (Below base) (walk_kind types base kind)
kind_below types base (Number prim length null low high) = tt
kind_below types base (Enum prim values) = values_below base prim set.empty set.empty 0 values
kind_below types base (Set prim bits) = bits_below base prim set.empty set.empty 0 bits
kind_below types base (Composite members) = members_below types base set.empty 0 0 members

pub fields_below : (types : List TypeDef) (base : List PathStep) (names : Names) (ids : Numbers) (least_since : ℤ) (end at : ℕ) (fs : List FieldDef) → AllByRecursion (Below base) (walk_fields types base names ids least_since end at fs)
fields_below types base names ids least_since end at [] = tt
fields_below types base names ids least_since end at (f ∷ fs) =
    ((path_step Fields at, [], refl), fields_below types base (set.insert names f.name) (set.insert ids (pos f.id)) (int_max least_since f.since) (field_end types end f) (at + 1) fs)

pub data_below : (base : List PathStep) (parent : Parent) (names : Names) (ids : Numbers) (least_since : ℤ) (at : ℕ) (ds : List DataDef) → AllByRecursion (Below base) (walk_data base parent names ids least_since at ds)
data_below base parent names ids least_since at [] = tt
data_below base parent names ids least_since at (d ∷ ds) = ((path_step Data at, [], refl), data_below base parent (set.insert names d.name) (set.insert ids (pos d.id)) (int_max least_since d.since) (at + 1) ds)

pub groups_below : (types : List TypeDef) (base : List PathStep) (parent : Parent) (names : Names) (ids : Numbers) (least_since : ℤ) (at : ℕ) (tree : GroupTree) → AllByRecursion (Below base) (walk_groups types base parent names ids least_since at tree)
groups_below types base parent names ids least_since at no_groups = tt
groups_below types base parent names ids least_since at (group g inner rest) =
    let here : List PathStep = base ++ path_step Groups at ∷ [] in
    let entry : Parent = entry_of parent g in
    let field_names : Names = names_of_fields set.empty g.fields in
    let field_ids : Numbers = ids_of_fields (set.insert ids (pos g.id)) g.fields in
    let group_ids : Numbers = ids_of_groups field_ids inner in
    let fields = fields_below types here set.empty (set.insert ids (pos g.id)) g.since 0 0 g.fields in
    let groups = groups_below types here entry field_names field_ids g.since 0 inner in
    let vars = data_below here entry (names_of_groups field_names inner) group_ids g.since 0 g.vars in
    let block = all_append (Below here) _ _ fields (all_append (Below here) _ _ groups vars) in
    let more = groups_below types base parent (set.insert names g.name) (ids_of_data group_ids g.vars) (int_max least_since g.since) (at + 1) rest in
    ((path_step Groups at, [], refl), all_append (Below base) _ _ (below_up base (path_step Groups at) _ block) more)

pub block_below : (types : List TypeDef) (base : List PathStep) (parent : Parent) (ids : Numbers) (fields : List FieldDef) (groups : GroupTree) (vars : List DataDef) → AllByRecursion (Below base) (walk_block types base parent ids fields groups vars)
block_below types base parent ids fields groups vars =
    let field_names : Names = names_of_fields set.empty fields in
    let field_ids : Numbers = ids_of_fields ids fields in
    all_append (Below base) _ _ (fields_below types base set.empty ids parent.since 0 0 fields) (all_append (Below base) _ _ (groups_below types base parent field_names field_ids parent.since 0 groups) (data_below base parent (names_of_groups field_names groups) (ids_of_groups field_ids groups) parent.since 0 vars))

-- what is known of the types stands below a type's place
abbrev pub InTypes : Place → Type 0
InTypes p = (i : ℕ) × (rest : List PathStep) × (p.path_steps ≡ path_step Types i ∷ rest)

below_in_types : (i : ℕ) (ps : List Place) → AllByRecursion (Below (path_step Types i ∷ [])) ps → AllByRecursion InTypes ps
below_in_types i [] a = tt
below_in_types i (p ∷ ps) a = ((i, a.0.0 ∷ a.0.1, a.0.2), below_in_types i ps a.1)

pub types_in : (types : List TypeDef) (names : Names) (at : ℕ) (ts : List TypeDef) → AllByRecursion InTypes (walk_types types names at ts)
types_in types names at [] = tt
types_in types names at (t ∷ ts) =
    ((at, [], refl), all_append InTypes _ _ (below_in_types at _ (kind_below types (path_step Types at ∷ []) t.kind)) (types_in types (set.insert names t.name) (at + 1) ts))
