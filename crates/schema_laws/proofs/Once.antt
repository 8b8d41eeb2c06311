-- The walk goes in order, so no path is in it twice.
use Rattle.std.proofs.Common.{◌≡◌, ℕ, suc, ◌+◌, ◌≤◌, ◌<◌, inl, inr, lit≤, ℤ, pos, List, [], ◌∷◌, ◌++◌, refl, sym, ap, subst, ◌∙◌, arith, append_assoc}
use Rattle.sbe_schema.specs.declared.fault.TableArray.{TableArray}
use Rattle.schema_types.specs.declared.schema.Schema.{Schema}
use Rattle.schema_types.specs.declared.messages.MessageDef.{MessageDef}
use Rattle.schema_laws.specs.Standing.{WalkRepeatsNone}
use Rattle.schema_laws.specs.Order.{order_of, IsAhead, ComesBefore, WalkGoesInOrder}
use Rattle.schema_laws.proofs.Below.{Below, all_append, kind_below, block_below}
use Rattle.std.specs.List.{AllByRecursion}
use Rattle.std.specs.Int.{int_max}
use Rattle.std.specs.FinSet as set
use Rattle.sbe_prim.specs.declared.Primitive.{Primitive}
use Rattle.sbe_schema.specs.declared.fault.PathStep.{PathStep}
use Rattle.sbe_schema.specs.declared.fault.TableArray.TheVariants.{Types, Values, Bits, Members, Messages, Fields, Groups, Data}
use Rattle.sbe_schema.specs.declared.parent.Parent.{Parent}
use Rattle.schema_types.specs.declared.types.TypeDef.{TypeDef}
use Rattle.schema_types.specs.declared.types.TypeKind.{TypeKind}
use Rattle.schema_types.specs.declared.types.TypeKind.TheVariants.{Number, Enum, Set, Composite}
use Rattle.schema_types.specs.declared.types.ValueDef.{ValueDef}
use Rattle.schema_types.specs.declared.types.BitDef.{BitDef}
use Rattle.schema_types.specs.declared.types.MemberDef.{MemberDef}
use Rattle.schema_types.specs.declared.messages.FieldDef.{FieldDef}
use Rattle.schema_types.specs.declared.messages.DataDef.{DataDef}
use Rattle.schema_types.specs.Groups.{GroupTree, no_groups, group}
use Rattle.sbe_schema.specs.Names.{Names, Numbers}
use Rattle.sbe_schema.specs.Offsets.{member_end, field_end}
use Rattle.sbe_schema.specs.Places.{Place, Table, type_table, value_table, bit_table, member_table, message_table, field_table, group_table, data_table}
use Rattle.sbe_schema.specs.Walk.{path_step, walk_values, walk_bits, walk_members, walk_kind, walk_types, walk_fields, walk_groups, walk_data, walk_block, walk_messages, root_of, walk, place, names_of_fields, names_of_groups, ids_of_fields, ids_of_groups, ids_of_data, entry_of}

abbrev Ahead : List Place → Place → Type 0
Ahead ps p = AllByRecursion (λ q. ComesBefore p.path_steps q.path_steps) ps

abbrev Ordered : List Place → Type 0
Ordered [] = Unit {0}
Ordered (p ∷ ps) = Ahead ps p × Ordered ps

-- a path goes on from the base by a number of a list, that number or a later one
abbrev From : List PathStep → TableArray → ℕ → Place → Type 0
From base array at p = (j : ℕ) × (r : List PathStep) × (at ≤ j) × (p.path_steps ≡ base ++ path_step array j ∷ r)

abbrev Both : List PathStep → TableArray → ℕ → List Place → Type 0
Both base array at ps = AllByRecursion (From base array at) ps × Ordered ps

all_weaker : (P Q : Place → Type 0) → ((p : Place) → P p → Q p) → (ps : List Place) → AllByRecursion P ps → AllByRecursion Q ps
all_weaker P Q f [] a = tt
all_weaker P Q f (p ∷ ps) a = (f p a.0, all_weaker P Q f ps a.1)

cross : (P Q : Place → Type 0) → ((p q : Place) → P p → Q q → ComesBefore p.path_steps q.path_steps) → (ps qs : List Place) → AllByRecursion P ps → AllByRecursion Q qs → AllByRecursion (Ahead qs) ps
cross P Q rise [] qs a b = tt
cross P Q rise (p ∷ ps) qs a b = (all_weaker Q (λ q. ComesBefore p.path_steps q.path_steps) (λ q y. rise p q a.0 y) qs b, cross P Q rise ps qs a.1 b)

ordered_append : (ps qs : List Place) → Ordered ps → Ordered qs → AllByRecursion (Ahead qs) ps → Ordered (ps ++ qs)
ordered_append [] qs a b c = b
ordered_append (p ∷ ps) qs a b c = (all_append (λ q. ComesBefore p.path_steps q.path_steps) ps qs a.0 c.0, ordered_append ps qs a.1 b c.1)

-- paths that are equal to others in order are so
moved : (p q r t : List PathStep) → p ≡ r → q ≡ t → ComesBefore r t → ComesBefore p q
moved p q r t e f h = subst (λ l. ComesBefore l q) (sym e) (subst (λ l. ComesBefore r l) (sym f) h)

-- two numbers of one list, two lists, and what lies in a table
numbers_rise : (base : List PathStep) (array : TableArray) (i j : ℕ) (r t : List PathStep) → suc i ≤ j → ComesBefore (base ++ path_step array i ∷ r) (base ++ path_step array j ∷ t)
numbers_rise base array i j r t h = inr (record { base = base; one = path_step array i; other = path_step array j; rest = r; others = t; first = refl; second = refl; ahead = inr (refl, omega arith) })

arrays_rise : (base : List PathStep) (a b : TableArray) (i j : ℕ) (r t : List PathStep) → order_of a < order_of b → ComesBefore (base ++ path_step a i ∷ r) (base ++ path_step b j ∷ t)
arrays_rise base a b i j r t h = inr (record { base = base; one = path_step a i; other = path_step b j; rest = r; others = t; first = refl; second = refl; ahead = inl h })

deeper_follows : (base : List PathStep) (x y : PathStep) (r : List PathStep) → ComesBefore (base ++ x ∷ []) (base ++ x ∷ y ∷ r)
deeper_follows base x y r = inl (record { next = y; rest = r; goes_on = sym (append_assoc base (x ∷ []) (y ∷ r)) })

from_rise : (base : List PathStep) (a b : TableArray) → order_of a < order_of b → (p q : Place) → From base a 0 p → From base b 0 q → ComesBefore p.path_steps q.path_steps
from_rise base a b rise p q x y = moved p.path_steps q.path_steps _ _ x.3 y.3 (arrays_rise base a b x.0 y.0 x.1 y.1 rise)

later : (base : List PathStep) (array : TableArray) (at : ℕ) (ps : List Place) → AllByRecursion (From base array (at + 1)) ps → AllByRecursion (From base array at) ps
later base array at ps a = all_weaker (From base array (at + 1)) (From base array at) (λ p x. let h : at + 1 ≤ x.0 = x.2 in (x.0, x.1, omega arith, x.3)) ps a

-- one place, what lies below it, and what comes behind
step : (base : List PathStep) (array : TableArray) (at : ℕ) (names : Names) (ids : Numbers) (table : Table) (inside rest : List Place)
    → AllByRecursion (Below (base ++ path_step array at ∷ [])) inside → Ordered inside → Both base array (at + 1) rest → Both base array at (place base array at names ids table ∷ (inside ++ rest))
step base array at names ids table inside rest below one two =
    let head : Place = place base array at names ids table in
    let inner : AllByRecursion (λ q. (y : PathStep) × (r : List PathStep) × (q.path_steps ≡ base ++ path_step array at ∷ y ∷ r)) inside
    = all_weaker (Below (base ++ path_step array at ∷ [])) (λ q. (y : PathStep) × (r : List PathStep) × (q.path_steps ≡ base ++ path_step array at ∷ y ∷ r)) (λ q x. (x.0, x.1, x.2 ∙ append_assoc base (path_step array at ∷ []) (x.0 ∷ x.1))) inside below in
    let inner_from : AllByRecursion (From base array at) inside
    = all_weaker (λ q. (y : PathStep) × (r : List PathStep) × (q.path_steps ≡ base ++ path_step array at ∷ y ∷ r)) (From base array at) (λ q x. (at, x.0 ∷ x.1, omega arith, x.2)) inside inner in
    let head_inside : Ahead inside head
    = all_weaker (λ q. (y : PathStep) × (r : List PathStep) × (q.path_steps ≡ base ++ path_step array at ∷ y ∷ r)) (λ q. ComesBefore head.path_steps q.path_steps) (λ q x. moved head.path_steps q.path_steps _ _ refl x.2 (deeper_follows base (path_step array at) x.0 x.1)) inside inner in
    let head_rest : Ahead rest head
    = all_weaker (From base array (at + 1)) (λ q. ComesBefore head.path_steps q.path_steps) (λ q x. let h : at + 1 ≤ x.0 = x.2 in moved head.path_steps q.path_steps _ _ refl x.3 (numbers_rise base array at x.0 [] x.1 (omega arith))) rest two.0 in
    let between : AllByRecursion (Ahead rest) inside
    = cross (λ q. (y : PathStep) × (r : List PathStep) × (q.path_steps ≡ base ++ path_step array at ∷ y ∷ r)) (From base array (at + 1)) (λ p q x z. let h : at + 1 ≤ z.0 = z.2 in moved p.path_steps q.path_steps _ _ x.2 z.3 (numbers_rise base array at z.0 (x.0 ∷ x.1) z.1 (omega arith))) inside rest inner two.0 in (
      ((at, [], omega arith, refl), all_append (From base array at) inside rest inner_from (later base array at rest two.0)),
      (all_append (λ q. ComesBefore head.path_steps q.path_steps) inside rest head_inside head_rest, ordered_append inside rest one two.1 between),
    )

values_once : (base : List PathStep) (prim : Primitive) (names : Names) (numbers : Numbers) (at : ℕ) (vs : List ValueDef) → Both base Values at (walk_values base prim names numbers at vs)
values_once base prim names numbers at [] = (tt, tt)
values_once base prim names numbers at (v ∷ vs) = step base Values at names numbers (value_table prim v) [] _ tt tt (values_once base prim (set.insert names v.name) (set.insert numbers v.value) (at + 1) vs)

bits_once : (base : List PathStep) (prim : Primitive) (names : Names) (numbers : Numbers) (at : ℕ) (bs : List BitDef) → Both base Bits at (walk_bits base prim names numbers at bs)
bits_once base prim names numbers at [] = (tt, tt)
bits_once base prim names numbers at (b ∷ bs) = step base Bits at names numbers (bit_table prim b) [] _ tt tt (bits_once base prim (set.insert names b.name) (set.insert numbers (pos b.bit)) (at + 1) bs)

members_once : (types : List TypeDef) (base : List PathStep) (names : Names) (end at : ℕ) (ms : List MemberDef) → Both base Members at (walk_members types base names end at ms)
members_once types base names end at [] = (tt, tt)
members_once types base names end at (m ∷ ms) = step base Members at names set.empty (member_table end m) [] _ tt tt (members_once types base (set.insert names m.name) (member_end types end m) (at + 1) ms)

kind_once : (types : List TypeDef) (base : List PathStep) (kind : TypeKind) → Ordered (walk_kind types base kind)
kind_once types base (Number prim length null low high) = tt
kind_once types base (Enum prim values) = (values_once base prim set.empty set.empty 0 values).1
kind_once types base (Set prim bits) = (bits_once base prim set.empty set.empty 0 bits).1
kind_once types base (Composite members) = (members_once types base set.empty 0 0 members).1

types_once : (types : List TypeDef) (names : Names) (at : ℕ) (ts : List TypeDef) → Both [] Types at (walk_types types names at ts)
types_once types names at [] = (tt, tt)
types_once types names at (t ∷ ts) =
    step [] Types at names set.empty (type_table t) (walk_kind types (path_step Types at ∷ []) t.kind) (walk_types types (set.insert names t.name) (at + 1) ts) (kind_below types (path_step Types at ∷ []) t.kind) (kind_once types (path_step Types at ∷ []) t.kind) (types_once types (set.insert names t.name) (at + 1) ts)

fields_once : (types : List TypeDef) (base : List PathStep) (names : Names) (ids : Numbers) (least_since : ℤ) (end at : ℕ) (fs : List FieldDef) → Both base Fields at (walk_fields types base names ids least_since end at fs)
fields_once types base names ids least_since end at [] = (tt, tt)
fields_once types base names ids least_since end at (f ∷ fs) =
    step base Fields at names ids (field_table least_since end f) [] _ tt tt (fields_once types base (set.insert names f.name) (set.insert ids (pos f.id)) (int_max least_since f.since) (field_end types end f) (at + 1) fs)

data_once : (base : List PathStep) (parent : Parent) (names : Names) (ids : Numbers) (least_since : ℤ) (at : ℕ) (ds : List DataDef) → Both base Data at (walk_data base parent names ids least_since at ds)
data_once base parent names ids least_since at [] = (tt, tt)
data_once base parent names ids least_since at (d ∷ ds) = step base Data at names ids (data_table parent least_since d) [] _ tt tt (data_once base parent (set.insert names d.name) (set.insert ids (pos d.id)) (int_max least_since d.since) (at + 1) ds)

three_once : (base : List PathStep) (fs gs ds : List Place) → Both base Fields 0 fs → Both base Groups 0 gs → Both base Data 0 ds → Ordered (fs ++ (gs ++ ds))
three_once base fs gs ds f g d =
    let fields_groups = cross (From base Fields 0) (From base Groups 0) (from_rise base Fields Groups (lit≤ tt)) fs gs f.0 g.0 in
    let fields_data = cross (From base Fields 0) (From base Data 0) (from_rise base Fields Data (lit≤ tt)) fs ds f.0 d.0 in
    let groups_data = cross (From base Groups 0) (From base Data 0) (from_rise base Groups Data (lit≤ tt)) gs ds g.0 d.0 in
    ordered_append fs (gs ++ ds) f.1 (ordered_append gs ds g.1 d.1 groups_data) (ahead_append fs gs ds fields_groups fields_data)
  where
    ahead_append : (ps qs rs : List Place) → AllByRecursion (Ahead qs) ps → AllByRecursion (Ahead rs) ps → AllByRecursion (Ahead (qs ++ rs)) ps
    ahead_append [] qs rs a b = tt
    ahead_append (p ∷ ps) qs rs a b = (all_append (λ q. ComesBefore p.path_steps q.path_steps) qs rs a.0 b.0, ahead_append ps qs rs a.1 b.1)

groups_once : (types : List TypeDef) (base : List PathStep) (parent : Parent) (names : Names) (ids : Numbers) (least_since : ℤ) (at : ℕ) (tree : GroupTree) → Both base Groups at (walk_groups types base parent names ids least_since at tree)
groups_once types base parent names ids least_since at no_groups = (tt, tt)
groups_once types base parent names ids least_since at (group g inner rest) =
    let below : List PathStep = base ++ path_step Groups at ∷ [] in
    let entry : Parent = entry_of parent g in
    let field_names : Names = names_of_fields set.empty g.fields in
    let field_ids : Numbers = ids_of_fields (set.insert ids (pos g.id)) g.fields in
    let group_ids : Numbers = ids_of_groups field_ids inner in
    let block = walk_block types below entry (set.insert ids (pos g.id)) g.fields inner g.vars in
    let others = walk_groups types base parent (set.insert names g.name) (ids_of_data group_ids g.vars) (int_max least_since g.since) (at + 1) rest in
    let once = three_once below _ _ _ (fields_once types below set.empty (set.insert ids (pos g.id)) g.since 0 0 g.fields) (groups_once types below entry field_names field_ids g.since 0 inner) (data_once below entry (names_of_groups field_names inner) group_ids g.since 0 g.vars) in
    step base Groups at names ids (group_table parent least_since g) block others (block_below types below entry (set.insert ids (pos g.id)) g.fields inner g.vars) once
    (groups_once types base parent (set.insert names g.name) (ids_of_data group_ids g.vars) (int_max least_since g.since) (at + 1) rest)

messages_once : (types : List TypeDef) (names : Names) (ids : Numbers) (at : ℕ) (ms : List MessageDef) → Both [] Messages at (walk_messages types names ids at ms)
messages_once types names ids at [] = (tt, tt)
messages_once types names ids at (m ∷ ms) =
    let below : List PathStep = path_step Messages at ∷ [] in
    let parent : Parent = root_of m in
    let field_names : Names = names_of_fields set.empty m.fields in
    let field_ids : Numbers = ids_of_fields set.empty m.fields in
    let block = walk_block types below parent set.empty m.fields m.groups m.vars in
    let once = three_once below _ _ _ (fields_once types below set.empty set.empty parent.since 0 0 m.fields) (groups_once types below parent field_names field_ids parent.since 0 m.groups) (data_once below parent (names_of_groups field_names m.groups) (ids_of_groups field_ids m.groups) parent.since 0 m.vars) in
    step [] Messages at names ids (message_table m) block (walk_messages types (set.insert names m.name) (set.insert ids (pos m.id)) (at + 1) ms) (block_below types below parent set.empty m.fields m.groups m.vars) once
    (messages_once types (set.insert names m.name) (set.insert ids (pos m.id)) (at + 1) ms)

-- ---- the whole walk

no_path : (array : TableArray) (p : Place) → From [] array 0 p → ComesBefore [] p.path_steps
no_path array p x = inl (record { next = path_step array x.0; rest = x.1; goes_on = x.3 })

walk_once : (schema : Schema) → Ordered (walk schema)
unfolding walk
walk_once schema =
    let types = types_once schema.types set.empty 0 schema.types in
    let messages = messages_once schema.types set.empty set.empty 0 schema.messages in
    let first = walk_types schema.types set.empty 0 schema.types in
    let second = walk_messages schema.types set.empty set.empty 0 schema.messages in
    let away = cross (From [] Types 0) (From [] Messages 0) (from_rise [] Types Messages (lit≤ tt)) first second types.0 messages.0 in
    let top = all_append (λ q. ComesBefore [] q.path_steps) first second (all_weaker (From [] Types 0) (λ q. ComesBefore [] q.path_steps) (no_path Types) first types.0) (all_weaker (From [] Messages 0) (λ q. ComesBefore [] q.path_steps) (no_path Messages) second messages.0) in
    (top, ordered_append first second types.1 messages.1 away)

ahead_at : (between : List Place) (p : Place) (after : List Place) (q : Place) → Ahead (between ++ p ∷ after) q → ComesBefore q.path_steps p.path_steps
ahead_at [] p after q a = a.0
ahead_at (x ∷ between) p after q a = ahead_at between p after q a.1

ordered_at : (before : List Place) (q : Place) (between : List Place) (p : Place) (after : List Place) → Ordered (before ++ q ∷ (between ++ p ∷ after)) → ComesBefore q.path_steps p.path_steps
ordered_at [] q between p after d = ahead_at between p after q d.0
ordered_at (x ∷ before) q between p after d = ordered_at before q between p after d.1

pub walk_goes_in_order : WalkGoesInOrder
walk_goes_in_order schema before q between p after split = ordered_at before q between p after (subst Ordered split (walk_once schema))

-- ---- no path comes before itself

cancel : (base xs ys : List PathStep) → base ++ xs ≡ base ++ ys → xs ≡ ys
cancel [] xs ys e = e
cancel (b ∷ base) xs ys e = let inner : base ++ xs ≡ base ++ ys = cc in cancel base xs ys inner

no_longer : (p : List PathStep) (x : PathStep) (r : List PathStep) → p ≡ p ++ x ∷ r → ⊥
no_longer [] x r e = cc
no_longer (y ∷ p) x r e = let inner : p ≡ p ++ x ∷ r = cc in no_longer p x r inner

abbrev first_path_step : PathStep → List PathStep → PathStep
first_path_step other [] = other
first_path_step other (x ∷ xs) = x

not_ahead : (x y : PathStep) → IsAhead x y → x ≡ y → ⊥
not_ahead x y a e = elim a [ inl h ↦ let same : order_of x.array ≡ order_of y.array = ap (λ s. order_of s.array) e in absurd (omega arith) | inr h ↦ let same : x.at ≡ y.at = ap (λ s. s.at) e in let less : x.at < y.at = h.1 in absurd (omega arith) ]

not_itself : (p q : List PathStep) → ComesBefore p q → p ≡ q → ⊥
not_itself p q h e =
    elim h [
      | inl l ↦ no_longer p l.next l.rest (e ∙ l.goes_on)
      | inr f ↦ not_ahead f.one f.other f.ahead (ap (first_path_step f.one) (cancel f.base (f.one ∷ f.rest) (f.other ∷ f.others) (sym f.first ∙ (e ∙ f.second))))
    ]

pub walk_repeats_none : WalkRepeatsNone
walk_repeats_none schema before q between p after split same = not_itself q.path_steps p.path_steps (walk_goes_in_order schema before q between p after split) same
