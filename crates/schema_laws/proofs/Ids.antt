-- At each message and element of a walk, the set of numbers holds the ids of the messages before it, or of the elements before it in its message.
use Rattle.std.proofs.Common.{◌≡◌, ℕ, ◌+◌, ℤ, pos, Bool, true, false, ◌&&◌, ◌||◌, Option, Some, None, List, [], ◌∷◌, ◌++◌, refl, sym, ap, subst, ◌∙◌, arith, append_assoc}
use Rattle.std.specs.List.{AllByRecursion}
use Rattle.std.specs.Ordering.{int_cmp, eq_by_cmp}
use Rattle.std.specs.Cmp.{int_cmp_total}
use Rattle.std.specs.Int.{int_max}
use Rattle.std.specs.FinSet as set
use Rattle.sbe_prim.specs.declared.Primitive.{Primitive}
use Rattle.sbe_schema.specs.declared.fault.PathStep.{PathStep}
use Rattle.sbe_schema.specs.declared.fault.TableArray.{TableArray}
use Rattle.sbe_schema.specs.declared.fault.TableArray.TheVariants.{Types, Messages, Fields, Groups, Data}
use Rattle.sbe_schema.specs.declared.parent.Parent.{Parent}
use Rattle.schema_types.specs.declared.schema.Schema.{Schema}
use Rattle.schema_types.specs.declared.types.TypeDef.{TypeDef}
use Rattle.schema_types.specs.declared.types.TypeKind.{TypeKind}
use Rattle.schema_types.specs.declared.types.TypeKind.TheVariants.{Number, Enum, Set, Composite}
use Rattle.schema_types.specs.declared.types.ValueDef.{ValueDef}
use Rattle.schema_types.specs.declared.types.BitDef.{BitDef}
use Rattle.schema_types.specs.declared.types.MemberDef.{MemberDef}
use Rattle.schema_types.specs.declared.messages.MessageDef.{MessageDef}
use Rattle.schema_types.specs.declared.messages.FieldDef.{FieldDef}
use Rattle.schema_types.specs.declared.messages.DataDef.{DataDef}
use Rattle.schema_types.specs.Groups.{GroupTree, no_groups, group}
use Rattle.sbe_schema.specs.Names.{Names, Numbers}
use Rattle.sbe_schema.specs.Offsets.{member_end, field_end}
use Rattle.sbe_schema.specs.Places.{Place, Table, message_table, field_table, group_table, data_table}
use Rattle.sbe_schema.specs.Walk.{path_step, place, root_of, walk_values, walk_bits, walk_members, walk_kind, walk_types, walk_fields, walk_groups, walk_data, walk_block, walk_messages, walk, ids_of_block, names_of_fields, names_of_groups, ids_of_fields, ids_of_groups, ids_of_data, entry_of}
use Rattle.schema_laws.specs.Pairs.{id_of}
use Rattle.schema_laws.proofs.PathSteps.{same_array, same_path_step, same_path_step-itself, other_at}
use Rattle.schema_laws.proofs.State.{add, adds, adds-append, NoneNear, adds-none, AllKnow, all_know-append, all_know-plain}
use Rattle.schema_laws.proofs.Lists.{FreeFrom}
use Rattle.schema_laws.proofs.Below.{Below, InTypes, types_in, all_append, block_below}

abbrev pub is_message : PathStep → Bool
is_message x = same_array x.array Messages

-- both are messages, or both lie within one
abbrev pub rivals : List PathStep → List PathStep → Bool
rivals [] ys = false
rivals (x ∷ xs) [] = false
rivals (x ∷ []) (y ∷ []) = is_message x && is_message y
rivals (x ∷ []) (y ∷ w ∷ ws) = false
rivals (x ∷ z ∷ zs) (y ∷ []) = false
rivals (x ∷ z ∷ zs) (y ∷ w ∷ ws) = is_message x && same_path_step x y

abbrev pub numbered_as : Option ℕ → ℤ → Bool
numbered_as None n = false
numbered_as (Some m) n = eq_by_cmp int_cmp n (pos m)

abbrev pub numbered : Table → ℤ → Bool
numbered t n = numbered_as (id_of t) n

abbrev pub Seen : Type 0
Seen = List PathStep → ℤ → Bool

abbrev pub with : Seen → Place → Seen
with s p = add rivals numbered s p

abbrev pub after : Seen → List Place → Seen
after s ps = adds rivals numbered s ps

abbrev pub KnowsAt : Option ℕ → Numbers → (ℤ → Bool) → Type 0
KnowsAt None numbers f = Unit {0}
KnowsAt (Some m) numbers f = (n : ℤ) → set.contains numbers n ≡ f n

abbrev pub Knows : Place → (ℤ → Bool) → Type 0
Knows p f = KnowsAt (id_of p.table) p.numbers f

abbrev pub Tells : Seen → List Place → Type 0
Tells s ps = AllKnow rivals numbered Knows s ps

-- ---- within one message

abbrev Inside : ℕ → List PathStep → Type 0
Inside m path = (y : PathStep) × (t : List PathStep) × (path ≡ path_step Messages m ∷ y ∷ t)

abbrev IsInside : ℕ → List PathStep → Type 0
IsInside m base = (x : PathStep) (r : List PathStep) → Inside m (base ++ x ∷ r)

inside_deeper : (m : ℕ) (base : List PathStep) (y : PathStep) → IsInside m base → IsInside m (base ++ y ∷ [])
inside_deeper m base y inside x r =
    let i = inside y (x ∷ r) in
    (i.0, i.1, append_assoc base (y ∷ []) (x ∷ r) ∙ i.2)

-- the ids so far of the elements of a message
abbrev HoldsIds : ℕ → Seen → Numbers → Type 0
HoldsIds m s ids = (x : PathStep) (r : List PathStep) (n : ℤ) → s (path_step Messages m ∷ x ∷ r) n ≡ set.contains ids n

id_known : (m : ℕ) (path : List PathStep) (s : Seen) (ids : Numbers) → Inside m path → HoldsIds m s ids → (n : ℤ) → set.contains ids n ≡ s path n
id_known m path s ids i h n = sym (ap (λ l. s l n) i.2 ∙ h i.0 i.1 n)

id_more : (m : ℕ) (base : List PathStep) (array : TableArray) (at : ℕ) (names : Names) (ids : Numbers) (table : Table) (s : Seen) (id : ℕ)
    → IsInside m base → ((n : ℤ) → numbered table n ≡ eq_by_cmp int_cmp n (pos id)) → HoldsIds m s ids → HoldsIds m (with s (place base array at names ids table)) (set.insert ids (pos id))
id_more m base array at names ids table s id inside e h x r n =
    let i = inside (path_step array at) [] in
    let near : rivals (base ++ path_step array at ∷ []) (path_step Messages m ∷ x ∷ r) ≡ true = ap (λ l. rivals l (path_step Messages m ∷ x ∷ r)) i.2 ∙ same_path_step-itself (path_step Messages m) in
    (λ k. (near k && e n k) || h x r n k) ∙ sym (set.contains-insert int_cmp_total ids (pos id) n)

fields_tell : (types : List TypeDef) (m : ℕ) (base : List PathStep) (names : Names) (ids : Numbers) (least_since : ℤ) (end at : ℕ) (fs : List FieldDef) (s : Seen) → IsInside m base → HoldsIds m s ids
    → Tells s (walk_fields types base names ids least_since end at fs) × HoldsIds m (after s (walk_fields types base names ids least_since end at fs)) (ids_of_fields ids fs)
fields_tell types m base names ids least_since end at [] s inside h = (tt, h)
fields_tell types m base names ids least_since end at (f ∷ fs) s inside h =
    let more = fields_tell types m base (set.insert names f.name) (set.insert ids (pos f.id)) (int_max least_since f.since) (field_end types end f) (at + 1) fs _ inside (id_more m base Fields at names ids (field_table least_since end f) s f.id inside (λ n. refl) h) in
    ((id_known m _ s ids (inside (path_step Fields at) []) h, more.0), more.1)

data_tell : (m : ℕ) (base : List PathStep) (parent : Parent) (names : Names) (ids : Numbers) (least_since : ℤ) (at : ℕ) (ds : List DataDef) (s : Seen) → IsInside m base → HoldsIds m s ids
    → Tells s (walk_data base parent names ids least_since at ds) × HoldsIds m (after s (walk_data base parent names ids least_since at ds)) (ids_of_data ids ds)
data_tell m base parent names ids least_since at [] s inside h = (tt, h)
data_tell m base parent names ids least_since at (d ∷ ds) s inside h =
    let more = data_tell m base parent (set.insert names d.name) (set.insert ids (pos d.id)) (int_max least_since d.since) (at + 1) ds _ inside (id_more m base Data at names ids (data_table parent least_since d) s d.id inside (λ n. refl) h) in
    ((id_known m _ s ids (inside (path_step Data at) []) h, more.0), more.1)

-- what is owed of the groups of a block
abbrev GroupsTell : List TypeDef → ℕ → List PathStep → Parent → Names → Numbers → ℤ → ℕ → GroupTree → Type 0
GroupsTell types m base parent names ids least_since at tree = (s : Seen) → IsInside m base → HoldsIds m s ids
    → Tells s (walk_groups types base parent names ids least_since at tree) × HoldsIds m (after s (walk_groups types base parent names ids least_since at tree)) (ids_of_groups ids tree)

block_from : (types : List TypeDef) (m : ℕ) (base : List PathStep) (parent : Parent) (ids : Numbers) (fields : List FieldDef) (groups : GroupTree) (vars : List DataDef)
    → GroupsTell types m base parent (names_of_fields set.empty fields) (ids_of_fields ids fields) parent.since 0 groups
    → (s : Seen) → IsInside m base → HoldsIds m s ids
    → Tells s (walk_block types base parent ids fields groups vars) × HoldsIds m (after s (walk_block types base parent ids fields groups vars)) (ids_of_block ids fields groups vars)
block_from types m base parent ids fields groups vars groups_known s inside h =
    let field_names : Names = names_of_fields set.empty fields in
    let field_ids : Numbers = ids_of_fields ids fields in
    let first = walk_fields types base set.empty ids parent.since 0 0 fields in
    let second = walk_groups types base parent field_names field_ids parent.since 0 groups in
    let third = walk_data base parent (names_of_groups field_names groups) (ids_of_groups field_ids groups) parent.since 0 vars in
    let one = fields_tell types m base set.empty ids parent.since 0 0 fields s inside h in
    let two = groups_known (after s first) inside one.1 in
    let three = data_tell m base parent (names_of_groups field_names groups) (ids_of_groups field_ids groups) parent.since 0 vars (after (after s first) second) inside two.1 in
    let state : after s (first ++ (second ++ third)) ≡ after (after (after s first) second) third = adds-append rivals numbered s first (second ++ third) ∙ adds-append rivals numbered (after s first) second third in (
      all_know-append rivals numbered Knows s first (second ++ third) one.0 (all_know-append rivals numbered Knows (after s first) second third two.0 three.0),
      subst (λ (t : Seen). HoldsIds m t (ids_of_block ids fields groups vars)) (sym state) three.1,
    )

groups_tell : (types : List TypeDef) (m : ℕ) (base : List PathStep) (parent : Parent) (names : Names) (ids : Numbers) (least_since : ℤ) (at : ℕ) (tree : GroupTree) → GroupsTell types m base parent names ids least_since at tree
groups_tell types m base parent names ids least_since at no_groups s inside h = (tt, h)
groups_tell types m base parent names ids least_since at (group g inner rest) s inside h =
    let here : List PathStep = base ++ path_step Groups at ∷ [] in
    let entry : Parent = entry_of parent g in
    let field_names : Names = names_of_fields set.empty g.fields in
    let field_ids : Numbers = ids_of_fields (set.insert ids (pos g.id)) g.fields in
    let group_ids : Numbers = ids_of_groups field_ids inner in
    let head : Place = place base Groups at names ids (group_table parent least_since g) in
    let block : List Place = walk_block types here entry (set.insert ids (pos g.id)) g.fields inner g.vars in
    let others : List Place = walk_groups types base parent (set.insert names g.name) (ids_of_data group_ids g.vars) (int_max least_since g.since) (at + 1) rest in
    let known = block_from types m here entry (set.insert ids (pos g.id)) g.fields inner g.vars (groups_tell types m here entry field_names field_ids g.since 0 inner) (with s head)
    (inside_deeper m base (path_step Groups at) inside) (id_more m base Groups at names ids (group_table parent least_since g) s g.id inside (λ n. refl) h) in
    let more = groups_tell types m base parent (set.insert names g.name) (ids_of_data group_ids g.vars) (int_max least_since g.since) (at + 1) rest (after (with s head) block) inside known.1 in (
      (id_known m _ s ids (inside (path_step Groups at) []) h, all_know-append rivals numbered Knows (with s head) block others known.0 more.0),
      subst (λ (t : Seen). HoldsIds m t (ids_of_groups (ids_of_data group_ids g.vars) rest)) (sym (adds-append rivals numbered (with s head) block others)) more.1,
    )

-- ---- messages

none_near : (path : List PathStep) (at : ℕ) (ps : List Place) → ((y : PathStep) (r : List PathStep) → rivals (path_step Messages at ∷ y ∷ r) path ≡ false) → AllByRecursion (Below (path_step Messages at ∷ [])) ps → NoneNear rivals numbered path ps
none_near path at [] away a = tt
none_near path at (p ∷ ps) away a = (ap (λ l. rivals l path) a.0.2 ∙ away a.0.0 a.0.1, none_near path at ps away a.1)

abbrev HoldsMessages : Seen → Numbers → Type 0
HoldsMessages s ids = (i : ℕ) (n : ℤ) → s (path_step Messages i ∷ []) n ≡ set.contains ids n

messages_tell : (types : List TypeDef) (names : Names) (ids : Numbers) (at : ℕ) (ms : List MessageDef) (s : Seen) → HoldsMessages s ids → FreeFrom [] Messages at s → Tells s (walk_messages types names ids at ms)
messages_tell types names ids at [] s h free = tt
messages_tell types names ids at (m ∷ ms) s h free =
    let here : List PathStep = path_step Messages at ∷ [] in
    let head : Place = place [] Messages at names ids (message_table m) in
    let block = walk_block types here (root_of m) set.empty m.fields m.groups m.vars in
    let below = block_below types here (root_of m) set.empty m.fields m.groups m.vars in
    let empty : HoldsIds at (with s head) set.empty = λ x r n. free at (omega arith) x r n ∙ sym (set.contains-empty int_cmp n) in
    let known = block_from types at here (root_of m) set.empty m.fields m.groups m.vars (groups_tell types at here (root_of m) (names_of_fields set.empty m.fields) (ids_of_fields set.empty m.fields) m.since 0 m.groups) (with s head) (λ x r. (x, r, refl)) empty in
    let holds : HoldsMessages (after (with s head) block) (set.insert ids (pos m.id))
    = λ i n.
    adds-none rivals numbered (with s head) block (path_step Messages i ∷ []) n (none_near (path_step Messages i ∷ []) at block (λ y r. refl) below)
    ∙ (ap (λ b. eq_by_cmp int_cmp n (pos m.id) || b) (h i n) ∙ sym (set.contains-insert int_cmp_total ids (pos m.id) n)) in
    let clear : FreeFrom [] Messages (at + 1) (after (with s head) block)
    = λ j l y r n.
    adds-none rivals numbered (with s head) block (path_step Messages j ∷ y ∷ r) n (none_near (path_step Messages j ∷ y ∷ r) at block (λ z t. other_at Messages at j (omega arith)) below)
    ∙ free j (omega arith) y r n in
    let more = messages_tell types (set.insert names m.name) (set.insert ids (pos m.id)) (at + 1) ms (after (with s head) block) holds clear in
    (λ n. sym (h at n), all_know-append rivals numbered Knows (with s head) block (walk_messages types (set.insert names m.name) (set.insert ids (pos m.id)) (at + 1) ms) known.0 more)

-- ---- types have no ids, and are no rivals of messages

abbrev Plain : Place → Type 0
Plain p = (f : ℤ → Bool) → Knows p f

values_plain : (base : List PathStep) (prim : Primitive) (names : Names) (numbers : Numbers) (at : ℕ) (vs : List ValueDef) → AllByRecursion Plain (walk_values base prim names numbers at vs)
values_plain base prim names numbers at [] = tt
values_plain base prim names numbers at (v ∷ vs) = (λ k. tt, values_plain base prim (set.insert names v.name) (set.insert numbers v.value) (at + 1) vs)

bits_plain : (base : List PathStep) (prim : Primitive) (names : Names) (numbers : Numbers) (at : ℕ) (bs : List BitDef) → AllByRecursion Plain (walk_bits base prim names numbers at bs)
bits_plain base prim names numbers at [] = tt
bits_plain base prim names numbers at (b ∷ bs) = (λ k. tt, bits_plain base prim (set.insert names b.name) (set.insert numbers (pos b.bit)) (at + 1) bs)

members_plain : (types : List TypeDef) (base : List PathStep) (names : Names) (end at : ℕ) (ms : List MemberDef) → AllByRecursion Plain (walk_members types base names end at ms)
members_plain types base names end at [] = tt
members_plain types base names end at (m ∷ ms) = (λ f. tt, members_plain types base (set.insert names m.name) (member_end types end m) (at + 1) ms)

kind_plain : (types : List TypeDef) (base : List PathStep) (kind : TypeKind) → AllByRecursion Plain (walk_kind types base kind)
kind_plain types base (Number prim length null low high) = tt
kind_plain types base (Enum prim values) = values_plain base prim set.empty set.empty 0 values
kind_plain types base (Set prim bits) = bits_plain base prim set.empty set.empty 0 bits
kind_plain types base (Composite members) = members_plain types base set.empty 0 0 members

types_plain : (types : List TypeDef) (names : Names) (at : ℕ) (ts : List TypeDef) → AllByRecursion Plain (walk_types types names at ts)
types_plain types names at [] = tt
types_plain types names at (t ∷ ts) = (λ k. tt, all_append Plain _ _ (kind_plain types (path_step Types at ∷ []) t.kind) (types_plain types (set.insert names t.name) (at + 1) ts))

away : (i j : ℕ) (r t : List PathStep) → rivals (path_step Types i ∷ r) (path_step Messages j ∷ t) ≡ false
away i j [] [] = refl
away i j [] (y ∷ t) = refl
away i j (z ∷ r) [] = refl
away i j (z ∷ r) (y ∷ t) = refl

apart : (j : ℕ) (t : List PathStep) (ps : List Place) → AllByRecursion InTypes ps → NoneNear rivals numbered (path_step Messages j ∷ t) ps
apart j t [] a = tt
apart j t (p ∷ ps) a = (ap (λ l. rivals l (path_step Messages j ∷ t)) a.0.2 ∙ away a.0.0 j a.0.1 t, apart j t ps a.1)

pub walk_tells : (schema : Schema) → Tells (λ _ _. false) (walk schema)
unfolding walk
walk_tells schema =
    let start : Seen = λ _ _. false in
    let types = walk_types schema.types set.empty 0 schema.types in
    let within = types_in schema.types set.empty 0 schema.types in
    let first : Tells start types = all_know-plain rivals numbered Knows start types (types_plain schema.types set.empty 0 schema.types) in
    let second = messages_tell schema.types set.empty set.empty 0 schema.messages (after start types)
    (λ i n. adds-none rivals numbered start types (path_step Messages i ∷ []) n (apart i [] types within) ∙ sym (set.contains-empty int_cmp n))
    (λ j h y r n. adds-none rivals numbered start types (path_step Messages j ∷ y ∷ r) n (apart j (y ∷ r) types within)) in
    (tt, all_know-append rivals numbered Knows start types (walk_messages schema.types set.empty set.empty 0 schema.messages) first second)
