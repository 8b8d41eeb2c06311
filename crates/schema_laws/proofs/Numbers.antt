-- At each value and bit of a walk, the set of numbers holds those of the values and bits before it, in the same enum or set.
use Rattle.std.proofs.Common.{◌≡◌, ℕ, ◌+◌, ℤ, pos, Bool, false, Option, Some, None, List, [], ◌∷◌, ◌++◌, refl, sym}
use Rattle.std.specs.List.{AllByRecursion}
use Rattle.std.specs.Ordering.{int_cmp, eq_by_cmp}
use Rattle.std.specs.Cmp.{int_cmp_total}
use Rattle.std.specs.Int.{int_max}
use Rattle.std.specs.FinSet as set
use Rattle.sbe_prim.specs.declared.Primitive.{Primitive}
use Rattle.sbe_schema.specs.declared.fault.PathStep.{PathStep}
use Rattle.sbe_schema.specs.declared.fault.TableArray.TheVariants.{Types, Values, Bits, Messages, Groups}
use Rattle.sbe_schema.specs.declared.parent.Parent.{Parent}
use Rattle.schema_types.specs.declared.schema.Schema.{Schema}
use Rattle.schema_types.specs.declared.types.TypeDef.{TypeDef}
use Rattle.schema_types.specs.declared.types.TypeKind.{TypeKind}
use Rattle.schema_types.specs.declared.types.TypeKind.TheVariants.{Number, Enum, Set, Composite}
use Rattle.schema_types.specs.declared.types.ValueDef.{ValueDef}
use Rattle.schema_types.specs.declared.types.BitDef.{BitDef}
use Rattle.schema_types.specs.declared.types.MemberDef.{MemberDef}
use Rattle.schema_types.specs.declared.messages.MessageDef.{MessageDef}
use Rattle.schema_types.specs.declared.messages.FieldDef.{FieldDef}
use Rattle.schema_types.specs.declared.messages.DataDef.{DataDef}
use Rattle.schema_types.specs.Groups.{GroupTree, no_groups, group}
use Rattle.sbe_schema.specs.Names.{Names, Numbers}
use Rattle.sbe_schema.specs.Offsets.{member_end, field_end}
use Rattle.sbe_schema.specs.Places.{Place, Table, type_table, value_table, bit_table}
use Rattle.sbe_schema.specs.Walk.{path_step, place, root_of, walk_values, walk_bits, walk_members, walk_kind, walk_types, walk_fields, walk_groups, walk_data, walk_messages, walk, names_of_fields, names_of_groups, ids_of_fields, ids_of_groups, ids_of_data, entry_of}
use Rattle.schema_laws.specs.Pairs.{number_of}
use Rattle.schema_laws.proofs.PathSteps.{siblings}
use Rattle.schema_laws.proofs.State.{AllKnow, all_know-append, all_know-plain}
use Rattle.schema_laws.proofs.Lists as lists
use Rattle.schema_laws.proofs.Lists.{Free, FreeFrom, Holds, holds_none, holds_more, free_below, holds_over, free_over}
use Rattle.schema_laws.proofs.Below.{all_append, kind_below}

abbrev pub numbered_as : Option ℤ → ℤ → Bool
numbered_as None n = false
numbered_as (Some m) n = eq_by_cmp int_cmp n m

abbrev pub numbered : Table → ℤ → Bool
numbered t n = numbered_as (number_of t) n

abbrev pub Seen : Type 0
Seen = List PathStep → ℤ → Bool

abbrev pub with : Seen → Place → Seen
with s p = lists.with numbered s p

abbrev pub after : Seen → List Place → Seen
after s ps = lists.after numbered s ps

abbrev pub KnowsAt : Option ℤ → Numbers → (ℤ → Bool) → Type 0
KnowsAt None numbers f = Unit {0}
KnowsAt (Some m) numbers f = (n : ℤ) → set.contains numbers n ≡ f n

abbrev pub Knows : Place → (ℤ → Bool) → Type 0
Knows p f = KnowsAt (number_of p.table) p.numbers f

abbrev pub Tells : Seen → List Place → Type 0
Tells s ps = AllKnow siblings numbered Knows s ps

-- a place with no number
abbrev Plain : Place → Type 0
Plain p = (f : ℤ → Bool) → Knows p f

values_tell : (base : List PathStep) (prim : Primitive) (names : Names) (numbers : Numbers) (at : ℕ) (vs : List ValueDef) (s : Seen) → Holds base Values s numbers → Tells s (walk_values base prim names numbers at vs)
values_tell base prim names numbers at [] s h = tt
values_tell base prim names numbers at (v ∷ vs) s h =
    (λ n. sym (h (path_step Values at) refl n), values_tell base prim (set.insert names v.name) (set.insert numbers v.value) (at + 1) vs _ (holds_more int_cmp_total numbered base Values at names numbers (value_table prim v) s numbers v.value (λ n. refl) h))

bits_tell : (base : List PathStep) (prim : Primitive) (names : Names) (numbers : Numbers) (at : ℕ) (bs : List BitDef) (s : Seen) → Holds base Bits s numbers → Tells s (walk_bits base prim names numbers at bs)
bits_tell base prim names numbers at [] s h = tt
bits_tell base prim names numbers at (b ∷ bs) s h =
    (λ n. sym (h (path_step Bits at) refl n), bits_tell base prim (set.insert names b.name) (set.insert numbers (pos b.bit)) (at + 1) bs _ (holds_more int_cmp_total numbered base Bits at names numbers (bit_table prim b) s numbers (pos b.bit) (λ n. refl) h))

members_plain : (types : List TypeDef) (base : List PathStep) (names : Names) (end at : ℕ) (ms : List MemberDef) → AllByRecursion Plain (walk_members types base names end at ms)
members_plain types base names end at [] = tt
members_plain types base names end at (m ∷ ms) = (λ f. tt, members_plain types base (set.insert names m.name) (member_end types end m) (at + 1) ms)

kind_tells : (types : List TypeDef) (base : List PathStep) (kind : TypeKind) (s : Seen) → Free base s → Tells s (walk_kind types base kind)
kind_tells types base (Number prim length null low high) s free = tt
kind_tells types base (Enum prim values) s free = values_tell base prim set.empty set.empty 0 values s (holds_none int_cmp base Values s free)
kind_tells types base (Set prim bits) s free = bits_tell base prim set.empty set.empty 0 bits s (holds_none int_cmp base Bits s free)
kind_tells types base (Composite members) s free = all_know-plain siblings numbered Knows s _ (members_plain types base set.empty 0 0 members)

types_tell : (types : List TypeDef) (names : Names) (at : ℕ) (ts : List TypeDef) (s : Seen) → FreeFrom [] Types at s → Tells s (walk_types types names at ts)
types_tell types names at [] s free = tt
types_tell types names at (t ∷ ts) s free =
    let head : Place = place [] Types at names set.empty (type_table t) in
    let inside = walk_kind types (path_step Types at ∷ []) t.kind in
    let below = kind_below types (path_step Types at ∷ []) t.kind in
    let known = kind_tells types (path_step Types at ∷ []) t.kind (with s head) (free_below numbered [] Types at names set.empty (type_table t) s free) in
    let more = types_tell types (set.insert names t.name) (at + 1) ts (after (with s head) inside) (free_over numbered [] Types at names set.empty (type_table t) s inside below free) in
    (tt, all_know-append siblings numbered Knows (with s head) inside (walk_types types (set.insert names t.name) (at + 1) ts) known more)

-- ---- what lies in messages has no such number

fields_plain : (types : List TypeDef) (base : List PathStep) (names : Names) (ids : Numbers) (least_since : ℤ) (end at : ℕ) (fs : List FieldDef) → AllByRecursion Plain (walk_fields types base names ids least_since end at fs)
fields_plain types base names ids least_since end at [] = tt
fields_plain types base names ids least_since end at (f ∷ fs) =
    (λ k. tt, fields_plain types base (set.insert names f.name) (set.insert ids (pos f.id)) (int_max least_since f.since) (field_end types end f) (at + 1) fs)

data_plain : (base : List PathStep) (parent : Parent) (names : Names) (ids : Numbers) (least_since : ℤ) (at : ℕ) (ds : List DataDef) → AllByRecursion Plain (walk_data base parent names ids least_since at ds)
data_plain base parent names ids least_since at [] = tt
data_plain base parent names ids least_since at (d ∷ ds) = (λ k. tt, data_plain base parent (set.insert names d.name) (set.insert ids (pos d.id)) (int_max least_since d.since) (at + 1) ds)

groups_plain : (types : List TypeDef) (base : List PathStep) (parent : Parent) (names : Names) (ids : Numbers) (least_since : ℤ) (at : ℕ) (tree : GroupTree) → AllByRecursion Plain (walk_groups types base parent names ids least_since at tree)
groups_plain types base parent names ids least_since at no_groups = tt
groups_plain types base parent names ids least_since at (group g inner rest) =
    let here : List PathStep = base ++ path_step Groups at ∷ [] in
    let entry : Parent = entry_of parent g in
    let field_names : Names = names_of_fields set.empty g.fields in
    let field_ids : Numbers = ids_of_fields (set.insert ids (pos g.id)) g.fields in
    let group_ids : Numbers = ids_of_groups field_ids inner in
    let fields = fields_plain types here set.empty (set.insert ids (pos g.id)) g.since 0 0 g.fields in
    let groups = groups_plain types here entry field_names field_ids g.since 0 inner in
    let vars = data_plain here entry (names_of_groups field_names inner) group_ids g.since 0 g.vars in
    let block = all_append Plain _ _ fields (all_append Plain _ _ groups vars) in
    let more = groups_plain types base parent (set.insert names g.name) (ids_of_data group_ids g.vars) (int_max least_since g.since) (at + 1) rest in
    (λ k. tt, all_append Plain _ _ block more)

messages_plain : (types : List TypeDef) (names : Names) (ids : Numbers) (at : ℕ) (ms : List MessageDef) → AllByRecursion Plain (walk_messages types names ids at ms)
messages_plain types names ids at [] = tt
messages_plain types names ids at (m ∷ ms) =
    let here : List PathStep = path_step Messages at ∷ [] in
    let parent : Parent = root_of m in
    let field_names : Names = names_of_fields set.empty m.fields in
    let field_ids : Numbers = ids_of_fields set.empty m.fields in
    let fields = fields_plain types here set.empty set.empty parent.since 0 0 m.fields in
    let groups = groups_plain types here parent field_names field_ids parent.since 0 m.groups in
    let vars = data_plain here parent (names_of_groups field_names m.groups) (ids_of_groups field_ids m.groups) parent.since 0 m.vars in
    let block = all_append Plain _ _ fields (all_append Plain _ _ groups vars) in
    (λ k. tt, all_append Plain _ _ block (messages_plain types (set.insert names m.name) (set.insert ids (pos m.id)) (at + 1) ms))

pub walk_tells : (schema : Schema) → Tells (λ _ _. false) (walk schema)
unfolding walk
walk_tells schema =
    let start : Seen = λ _ _. false in
    let types = walk_types schema.types set.empty 0 schema.types in
    let first : Tells start types = types_tell schema.types set.empty 0 schema.types start (λ j h y r n. refl) in
    let second = all_know-plain siblings numbered Knows (after start types) _ (messages_plain schema.types set.empty set.empty 0 schema.messages) in
    (tt, all_know-append siblings numbered Knows start types (walk_messages schema.types set.empty set.empty 0 schema.messages) first second)
