-- At each place of a walk, the set of names holds what the places before it, in the same list or block, are named.
use Rattle.std.proofs.Common.{◌≡◌, ℕ, ◌+◌, ◌==◌, ℤ, pos, Bool, false, ◌&&◌, ◌||◌, Option, Some, None, List, [], ◌∷◌, ◌++◌, refl, sym, ap, subst, ◌∙◌}
use Rattle.std.specs.List.{AllByRecursion}
use Rattle.std.specs.Ordering.{nat_cmp, eq_by_cmp}
use Rattle.std.specs.Cmp.Lexicographic.{slice_cmp, nat_list_cmp_total}
use Rattle.std.specs.Int.{int_max}
use Rattle.std.specs.FinSet as set
use Rattle.sbe_prim.specs.declared.Primitive.{Primitive}
use Rattle.sbe_schema.specs.declared.fault.PathStep.{PathStep}
use Rattle.sbe_schema.specs.declared.fault.TableArray.{TableArray}
use Rattle.sbe_schema.specs.declared.fault.TableArray.TheVariants.{Types, Values, Bits, Members, Messages, Fields, Groups, Data}
use Rattle.sbe_schema.specs.declared.parent.Parent.{Parent}
use Rattle.schema_types.specs.declared.schema.Schema.{Schema}
use Rattle.schema_types.specs.declared.types.TypeDef.{TypeDef}
use Rattle.schema_types.specs.declared.types.TypeKind.{TypeKind}
use Rattle.schema_types.specs.declared.types.TypeKind.TheVariants.{Number, Enum, Set, Composite}
use Rattle.schema_types.specs.declared.types.ValueDef.{ValueDef}
use Rattle.schema_types.specs.declared.types.BitDef.{BitDef}
use Rattle.schema_types.specs.declared.types.MemberDef.{MemberDef}
use Rattle.schema_types.specs.declared.messages.MessageDef.{MessageDef}
use Rattle.schema_types.specs.declared.messages.FieldDef.{FieldDef}
use Rattle.schema_types.specs.declared.messages.DataDef.{DataDef}
use Rattle.schema_types.specs.Groups.{GroupTree, no_groups, group}
use Rattle.sbe_schema.specs.Names.{Names, Numbers}
use Rattle.sbe_schema.specs.Offsets.{member_end, field_end}
use Rattle.sbe_schema.specs.Places.{Place, Table, type_table, value_table, bit_table, member_table, message_table, field_table, group_table, data_table}
use Rattle.sbe_schema.specs.Walk.{path_step, place, root_of, walk_values, walk_bits, walk_members, walk_kind, walk_types, walk_fields, walk_groups, walk_data, walk_block, walk_messages, walk, names_of_fields, names_of_groups, ids_of_fields, ids_of_groups, ids_of_data, entry_of}
use Rattle.schema_laws.specs.Pairs.{name_of, list_of}
use Rattle.schema_laws.proofs.PathSteps.{same_array, same_path_step, siblings, siblings-deeper, siblings-other}
use Rattle.schema_laws.proofs.State.{adds-append, NoneNear, adds-none, AllKnow, all_know-append}
use Rattle.schema_laws.proofs.Lists as lists
use Rattle.schema_laws.proofs.Lists.{Free, FreeFrom, Holds, holds_none, holds_more, free_below, holds_over, free_over}
use Rattle.schema_laws.proofs.Below.{Below, InTypes, types_in, kind_below, block_below}

abbrev pub named_as : Option (List ℕ) → List ℕ → Bool
named_as None n = false
named_as (Some m) n = eq_by_cmp (slice_cmp nat_cmp) n m

abbrev pub named : Table → List ℕ → Bool
named t n = named_as (name_of t) n

abbrev pub Seen : Type 0
Seen = List PathStep → List ℕ → Bool

abbrev pub with : Seen → Place → Seen
with s p = lists.with named s p

abbrev pub after : Seen → List Place → Seen
after s ps = lists.after named s ps

abbrev pub Knows : Place → (List ℕ → Bool) → Type 0
Knows p f = (n : List ℕ) → set.contains p.names n ≡ f n

abbrev pub Tells : Seen → List Place → Type 0
Tells s ps = AllKnow siblings named Knows s ps

-- ---- the lists

values_tell : (base : List PathStep) (prim : Primitive) (names : Names) (numbers : Numbers) (at : ℕ) (vs : List ValueDef) (s : Seen) → Holds base Values s names → Tells s (walk_values base prim names numbers at vs)
values_tell base prim names numbers at [] s h = tt
values_tell base prim names numbers at (v ∷ vs) s h =
    (λ n. sym (h (path_step Values at) refl n), values_tell base prim (set.insert names v.name) (set.insert numbers v.value) (at + 1) vs _ (holds_more nat_list_cmp_total named base Values at names numbers (value_table prim v) s names v.name (λ n. refl) h))

bits_tell : (base : List PathStep) (prim : Primitive) (names : Names) (numbers : Numbers) (at : ℕ) (bs : List BitDef) (s : Seen) → Holds base Bits s names → Tells s (walk_bits base prim names numbers at bs)
bits_tell base prim names numbers at [] s h = tt
bits_tell base prim names numbers at (b ∷ bs) s h =
    (λ n. sym (h (path_step Bits at) refl n), bits_tell base prim (set.insert names b.name) (set.insert numbers (pos b.bit)) (at + 1) bs _ (holds_more nat_list_cmp_total named base Bits at names numbers (bit_table prim b) s names b.name (λ n. refl) h))

members_tell : (types : List TypeDef) (base : List PathStep) (names : Names) (end at : ℕ) (ms : List MemberDef) (s : Seen) → Holds base Members s names → Tells s (walk_members types base names end at ms)
members_tell types base names end at [] s h = tt
members_tell types base names end at (m ∷ ms) s h =
    (λ n. sym (h (path_step Members at) refl n), members_tell types base (set.insert names m.name) (member_end types end m) (at + 1) ms _ (holds_more nat_list_cmp_total named base Members at names set.empty (member_table end m) s names m.name (λ n. refl) h))

kind_tells : (types : List TypeDef) (base : List PathStep) (kind : TypeKind) (s : Seen) → Free base s → Tells s (walk_kind types base kind)
kind_tells types base (Number prim length null low high) s free = tt
kind_tells types base (Enum prim values) s free = values_tell base prim set.empty set.empty 0 values s (holds_none (slice_cmp nat_cmp) base Values s free)
kind_tells types base (Set prim bits) s free = bits_tell base prim set.empty set.empty 0 bits s (holds_none (slice_cmp nat_cmp) base Bits s free)
kind_tells types base (Composite members) s free = members_tell types base set.empty 0 0 members s (holds_none (slice_cmp nat_cmp) base Members s free)

types_tell : (types : List TypeDef) (names : Names) (at : ℕ) (ts : List TypeDef) (s : Seen) → Holds [] Types s names → FreeFrom [] Types at s → Tells s (walk_types types names at ts)
types_tell types names at [] s h free = tt
types_tell types names at (t ∷ ts) s h free =
    let head : Place = place [] Types at names set.empty (type_table t) in
    let inside = walk_kind types (path_step Types at ∷ []) t.kind in
    let below = kind_below types (path_step Types at ∷ []) t.kind in
    let known = kind_tells types (path_step Types at ∷ []) t.kind (with s head) (free_below named [] Types at names set.empty (type_table t) s free) in
    let more = types_tell types (set.insert names t.name) (at + 1) ts (after (with s head) inside)
    (holds_over named [] (path_step Types at) Types (with s head) (set.insert names t.name) inside below (holds_more nat_list_cmp_total named [] Types at names set.empty (type_table t) s names t.name (λ n. refl) h))
    (free_over named [] Types at names set.empty (type_table t) s inside below free) in
    (λ n. sym (h (path_step Types at) refl n), all_know-append siblings named Knows (with s head) inside (walk_types types (set.insert names t.name) (at + 1) ts) known more)

-- ---- blocks

fields_tell : (types : List TypeDef) (base : List PathStep) (names : Names) (ids : Numbers) (least_since : ℤ) (end at : ℕ) (fs : List FieldDef) (s : Seen) → Holds base Fields s names
    → Tells s (walk_fields types base names ids least_since end at fs) × Holds base Fields (after s (walk_fields types base names ids least_since end at fs)) (names_of_fields names fs)
fields_tell types base names ids least_since end at [] s h = (tt, h)
fields_tell types base names ids least_since end at (f ∷ fs) s h =
    let more = fields_tell types base (set.insert names f.name) (set.insert ids (pos f.id)) (int_max least_since f.since) (field_end types end f) (at + 1) fs _ (holds_more nat_list_cmp_total named base Fields at names ids (field_table least_since end f) s names f.name (λ n. refl) h) in
    ((λ n. sym (h (path_step Fields at) refl n), more.0), more.1)

data_tell : (base : List PathStep) (parent : Parent) (names : Names) (ids : Numbers) (least_since : ℤ) (at : ℕ) (ds : List DataDef) (s : Seen) → Holds base Fields s names → Tells s (walk_data base parent names ids least_since at ds)
data_tell base parent names ids least_since at [] s h = tt
data_tell base parent names ids least_since at (d ∷ ds) s h =
    (λ n. sym (h (path_step Data at) refl n), data_tell base parent (set.insert names d.name) (set.insert ids (pos d.id)) (int_max least_since d.since) (at + 1) ds _ (holds_more nat_list_cmp_total named base Data at names ids (data_table parent least_since d) s names d.name (λ n. refl) h))

-- fields leave what lies below groups free
fields_free : (types : List TypeDef) (base : List PathStep) (names : Names) (ids : Numbers) (least_since : ℤ) (end at : ℕ) (fs : List FieldDef) (path : List PathStep) (s : Seen) (n : List ℕ)
    → ((j : ℕ) → siblings (base ++ path_step Fields j ∷ []) path ≡ false) → s path n ≡ false → after s (walk_fields types base names ids least_since end at fs) path n ≡ false
fields_free types base names ids least_since end at [] path s n away h = h
fields_free types base names ids least_since end at (f ∷ fs) path s n away h =
    fields_free types base (set.insert names f.name) (set.insert ids (pos f.id)) (int_max least_since f.since) (field_end types end f) (at + 1) fs path _ n away (λ i. (away at i && named (field_table least_since end f) n) || h i)

-- what is owed of the groups of a block
abbrev GroupsTell : List TypeDef → List PathStep → Parent → Names → Numbers → ℤ → ℕ → GroupTree → Type 0
GroupsTell types base parent names ids least_since at tree = (s : Seen) → Holds base Fields s names → FreeFrom base Groups at s
    → Tells s (walk_groups types base parent names ids least_since at tree) × Holds base Fields (after s (walk_groups types base parent names ids least_since at tree)) (names_of_groups names tree)

block_from : (types : List TypeDef) (base : List PathStep) (parent : Parent) (ids : Numbers) (fields : List FieldDef) (groups : GroupTree) (vars : List DataDef)
    → GroupsTell types base parent (names_of_fields set.empty fields) (ids_of_fields ids fields) parent.since 0 groups
    → (s : Seen) → Free base s → Tells s (walk_block types base parent ids fields groups vars)
block_from types base parent ids fields groups vars groups_known s free =
    let field_names : Names = names_of_fields set.empty fields in
    let field_ids : Numbers = ids_of_fields ids fields in
    let first = walk_fields types base set.empty ids parent.since 0 0 fields in
    let second = walk_groups types base parent field_names field_ids parent.since 0 groups in
    let third = walk_data base parent (names_of_groups field_names groups) (ids_of_groups field_ids groups) parent.since 0 vars in
    let one = fields_tell types base set.empty ids parent.since 0 0 fields s (holds_none (slice_cmp nat_cmp) base Fields s free) in
    let two = groups_known (after s first) one.1 (λ j h y r n. fields_free types base set.empty ids parent.since 0 0 fields (base ++ path_step Groups j ∷ y ∷ r) s n (λ k. siblings-deeper base (path_step Fields k) (path_step Groups j) y r) (free (path_step Groups j) (y ∷ r) n)) in
    let three = data_tell base parent (names_of_groups field_names groups) (ids_of_groups field_ids groups) parent.since 0 vars (after (after s first) second) two.1 in
    all_know-append siblings named Knows s first (second ++ third) one.0 (all_know-append siblings named Knows (after s first) second third two.0 three)

groups_tell : (types : List TypeDef) (base : List PathStep) (parent : Parent) (names : Names) (ids : Numbers) (least_since : ℤ) (at : ℕ) (tree : GroupTree) → GroupsTell types base parent names ids least_since at tree
groups_tell types base parent names ids least_since at no_groups s h free = (tt, h)
groups_tell types base parent names ids least_since at (group g inner rest) s h free =
    let here : List PathStep = base ++ path_step Groups at ∷ [] in
    let entry : Parent = entry_of parent g in
    let field_names : Names = names_of_fields set.empty g.fields in
    let field_ids : Numbers = ids_of_fields (set.insert ids (pos g.id)) g.fields in
    let group_ids : Numbers = ids_of_groups field_ids inner in
    let head : Place = place base Groups at names ids (group_table parent least_since g) in
    let inside : List Place = walk_block types here entry (set.insert ids (pos g.id)) g.fields inner g.vars in
    let others : List Place = walk_groups types base parent (set.insert names g.name) (ids_of_data group_ids g.vars) (int_max least_since g.since) (at + 1) rest in
    let below : AllByRecursion (Below here) inside = block_below types here entry (set.insert ids (pos g.id)) g.fields inner g.vars in
    let known : Tells (with s head) inside = block_from types here entry (set.insert ids (pos g.id)) g.fields inner g.vars (groups_tell types here entry field_names field_ids g.since 0 inner) (with s head) (free_below named base Groups at names ids (group_table parent least_since g) s free) in
    let more = groups_tell types base parent (set.insert names g.name) (ids_of_data group_ids g.vars) (int_max least_since g.since) (at + 1) rest (after (with s head) inside)
    (holds_over named base (path_step Groups at) Fields (with s head) (set.insert names g.name) inside below (holds_more nat_list_cmp_total named base Groups at names ids (group_table parent least_since g) s names g.name (λ n. refl) h))
    (free_over named base Groups at names ids (group_table parent least_since g) s inside below free) in (
      (λ n. sym (h (path_step Groups at) refl n), all_know-append siblings named Knows (with s head) inside others known more.0),
      subst (λ (t : Seen). Holds base Fields t (names_of_groups (set.insert names g.name) rest)) (sym (adds-append siblings named (with s head) inside others)) more.1,
    )

block_tells : (types : List TypeDef) (base : List PathStep) (parent : Parent) (ids : Numbers) (fields : List FieldDef) (groups : GroupTree) (vars : List DataDef) (s : Seen) → Free base s → Tells s (walk_block types base parent ids fields groups vars)
block_tells types base parent ids fields groups vars s free =
    block_from types base parent ids fields groups vars (groups_tell types base parent (names_of_fields set.empty fields) (ids_of_fields ids fields) parent.since 0 groups) s free

messages_tell : (types : List TypeDef) (names : Names) (ids : Numbers) (at : ℕ) (ms : List MessageDef) (s : Seen) → Holds [] Messages s names → FreeFrom [] Messages at s → Tells s (walk_messages types names ids at ms)
messages_tell types names ids at [] s h free = tt
messages_tell types names ids at (m ∷ ms) s h free =
    let here : List PathStep = path_step Messages at ∷ [] in
    let head : Place = place [] Messages at names ids (message_table m) in
    let inside = walk_block types here (root_of m) set.empty m.fields m.groups m.vars in
    let below = block_below types here (root_of m) set.empty m.fields m.groups m.vars in
    let known = block_tells types here (root_of m) set.empty m.fields m.groups m.vars (with s head) (free_below named [] Messages at names ids (message_table m) s free) in
    let more = messages_tell types (set.insert names m.name) (set.insert ids (pos m.id)) (at + 1) ms (after (with s head) inside)
    (holds_over named [] (path_step Messages at) Messages (with s head) (set.insert names m.name) inside below (holds_more nat_list_cmp_total named [] Messages at names ids (message_table m) s names m.name (λ n. refl) h))
    (free_over named [] Messages at names ids (message_table m) s inside below free) in
    (λ n. sym (h (path_step Messages at) refl n), all_know-append siblings named Knows (with s head) inside (walk_messages types (set.insert names m.name) (set.insert ids (pos m.id)) (at + 1) ms) known more)

-- ---- the whole walk

-- what is known of the types touches no message
no_type : (p : TableArray) → list_of p ≡ Messages → same_array Types p ≡ false
no_type Types e = cc
no_type Values e = refl
no_type Bits e = refl
no_type Members e = refl
no_type Messages e = refl
no_type Fields e = refl
no_type Groups e = refl
no_type Data e = refl

away_from_messages : (i : ℕ) (x : PathStep) (r t : List PathStep) → list_of x.array ≡ Messages → siblings (path_step Types i ∷ r) (x ∷ t) ≡ false
away_from_messages i x [] [] e = ap (λ p. same_array Types p || false) e
away_from_messages i x [] (y ∷ t) e = refl
away_from_messages i x (z ∷ r) [] e = refl
away_from_messages i x (z ∷ r) (y ∷ t) e =
    let none : same_path_step (path_step Types i) x ≡ false = ap (λ b. b && (i == x.at)) (no_type x.array e) in
    siblings-other [] (path_step Types i) x z y r t none

messages_apart : (x : PathStep) (t : List PathStep) (ps : List Place) → list_of x.array ≡ Messages → AllByRecursion InTypes ps → NoneNear siblings named (x ∷ t) ps
messages_apart x t [] e a = tt
messages_apart x t (p ∷ ps) e a = (ap (λ l. siblings l (x ∷ t)) a.0.2 ∙ away_from_messages a.0.0 x a.0.1 t e, messages_apart x t ps e a.1)

pub walk_tells : (schema : Schema) → Tells (λ _ _. false) (walk schema)
unfolding walk
walk_tells schema =
    let start : Seen = λ _ _. false in
    let types = walk_types schema.types set.empty 0 schema.types in
    let first : Tells start types = types_tell schema.types set.empty 0 schema.types start (λ x l n. sym (set.contains-empty (slice_cmp nat_cmp) n)) (λ j h y r n. refl) in
    let apart = types_in schema.types set.empty 0 schema.types in
    let second = messages_tell schema.types set.empty set.empty 0 schema.messages (after start types)
    (λ x l n. adds-none siblings named start types (x ∷ []) n (messages_apart x [] types l apart) ∙ sym (set.contains-empty (slice_cmp nat_cmp) n))
    (λ j h y r n. adds-none siblings named start types (path_step Messages j ∷ y ∷ r) n (messages_apart (path_step Messages j) (y ∷ r) types refl apart)) in
    (λ n. set.contains-empty (slice_cmp nat_cmp) n, all_know-append siblings named Knows start types (walk_messages schema.types set.empty set.empty 0 schema.messages) first second)
