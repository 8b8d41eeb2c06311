-- A schema extends another exactly where no difference is found: the two have the same elements exactly where neither has
-- one that the other has not in its place.
use Rattle.std.proofs.Common.{◌≡◌, ◌≢◌, ℕ, ◌+◌, ◌∙◌, Bool, true, false, ◌&&◌, if◌then◌else◌, is_some, List, [], ◌∷◌, Option, Some, None, option_map, refl, sym, ap}
use Rattle.std.specs.Prelude.{nat_eq, nat_le}
use Rattle.std.proofs.lemmas.Bool.{false≢true, leb-true, le-leb}
use Rattle.std.proofs.lemmas.Bool.Decides.{Decides-eqb}
use Rattle.std.specs.Cmp.Lexicographic.{pointwise}
use denote.Enum.Bare.{sameb}
use Rattle.lists.specs.Exact.{exact_bare}
use Rattle.sbe_prim.specs.contracts.Order as order
use Rattle.sbe_value.specs.declared.path.Step.{Step}
use Rattle.schema_types.specs.declared.schema.Schema.{Schema}
use Rattle.schema_types.specs.declared.types.TypeDef.{TypeDef}
use Rattle.schema_types.specs.declared.messages.FieldDef.{FieldDef}
use Rattle.schema_types.specs.declared.messages.DataDef.{DataDef}
use Rattle.schema_types.specs.declared.messages.MessageDef.{MessageDef}
use Rattle.schema_types.specs.Groups.{GroupTree, no_groups, group}
use Rattle.sbe_skew.specs.Projected.{projected}
use Rattle.sbe_skew.specs.Extends.{Extends, same_field, same_datum, same_head, same_template, same_groups, same_message, or_else, other_fields, other_data, other_groups, other_messages, first_difference, difference_by, difference_of}
use Rattle.sbe_skew.proofs.Flips.{messages_flip}

abbrev Found : Type 0
Found = Option (List Step)

-- ---- tests and what they choose

pub some_none : {A : Type 0} {x : A} → Some x ≢ None
some_none p = false≢true (sym (ap is_some p))

parts : (a b : Bool) → (a && b) ≡ true → (a ≡ true) × (b ≡ true)
parts true b t = (refl, t)
parts false b t = absurd (false≢true t)

both : (a b : Bool) → a ≡ true → b ≡ true → (a && b) ≡ true
both a b p q = λ i. p i && q i

chosen : (b : Bool) (x y : Found) → b ≡ true → x ≡ None → (if b then x else y) ≡ None
chosen true x y e p = p
chosen false x y e p = absurd (false≢true e)

chosen_back : (b : Bool) (x : Found) (path : List Step) → (if b then x else Some path) ≡ None → (b ≡ true) × (x ≡ None)
chosen_back true x path p = (refl, p)
chosen_back false x path p = absurd (some_none p)

neither : (x y : Found) → x ≡ None → y ≡ None → or_else x y ≡ None
neither None y p q = q
neither (Some path) y p q = p

neither_back : (x y : Found) → or_else x y ≡ None → (x ≡ None) × (y ≡ None)
neither_back None y p = (refl, p)
neither_back (Some path) y p = absurd (some_none p)

under_back : (f : List Step → List Step) (x : Found) → option_map f x ≡ None → x ≡ None
under_back f None p = refl
under_back f (Some path) p = absurd (some_none p)

-- ---- the same elements show no difference

fields_none : (types others : List TypeDef) (at : ℕ) (fs gs : List FieldDef) → pointwise (same_field types others) fs gs ≡ true → other_fields types others at fs gs ≡ None
fields_none types others at [] gs t = refl
fields_none types others at (f ∷ fs) [] t = absurd (false≢true t)
fields_none types others at (f ∷ fs) (g ∷ gs) t =
    let p = parts (same_field types others f g) _ t in chosen _ _ _ p.0 (fields_none types others (at + 1) fs gs p.1)

data_none : (at : ℕ) (ds es : List DataDef) → pointwise same_datum ds es ≡ true → other_data at ds es ≡ None
data_none at [] es t = refl
data_none at (d ∷ ds) [] t = absurd (false≢true t)
data_none at (d ∷ ds) (e ∷ es) t =
    let p = parts (same_datum d e) _ t in chosen _ _ _ p.0 (data_none (at + 1) ds es p.1)

groups_none : (types others : List TypeDef) (at : ℕ) (t u : GroupTree) → same_groups types others t u ≡ true → other_groups types others at t u ≡ None
groups_none types others at no_groups u s = refl
groups_none types others at (group g inner rest) no_groups s = absurd (false≢true s)
groups_none types others at (group g inner rest) (group h deeper after) s =
    let p = parts (same_head g h && (pointwise (same_field types others) g.fields h.fields && (same_groups types others inner deeper && pointwise same_datum g.vars h.vars))) (same_groups types others rest after) s in
    let q = parts (same_head g h) (pointwise (same_field types others) g.fields h.fields && (same_groups types others inner deeper && pointwise same_datum g.vars h.vars)) p.0 in
    let r = parts (pointwise (same_field types others) g.fields h.fields) (same_groups types others inner deeper && pointwise same_datum g.vars h.vars) q.1 in
    let v = parts (same_groups types others inner deeper) (pointwise same_datum g.vars h.vars) r.1 in
    chosen _ _ _ q.0 (neither _ _ (ap (option_map _) (neither _ _ (fields_none types others 0 g.fields h.fields r.0) (neither _ _ (groups_none types others 0 inner deeper v.0) (data_none 0 g.vars h.vars v.1)))) (groups_none types others (at + 1) rest after p.1))

messages_none : (types others : List TypeDef) (at : ℕ) (ms ns : List MessageDef) → pointwise (same_message types others) ms ns ≡ true → other_messages types others at ms ns ≡ None
messages_none types others at [] ns t = refl
messages_none types others at (m ∷ ms) [] t = absurd (false≢true t)
messages_none types others at (m ∷ ms) (n ∷ ns) t =
    let p = parts (same_message types others m n) (pointwise (same_message types others) ms ns) t in
    let q = parts (same_template m n) (pointwise (same_field types others) m.fields n.fields && (same_groups types others m.groups n.groups && pointwise same_datum m.vars n.vars)) p.0 in
    let r = parts (pointwise (same_field types others) m.fields n.fields) (same_groups types others m.groups n.groups && pointwise same_datum m.vars n.vars) q.1 in
    let v = parts (same_groups types others m.groups n.groups) (pointwise same_datum m.vars n.vars) r.1 in
    chosen _ _ _ q.0 (neither _ _ (ap (option_map _) (neither _ _ (fields_none types others 0 m.fields n.fields r.0) (neither _ _ (groups_none types others 0 m.groups n.groups v.0) (data_none 0 m.vars n.vars v.1)))) (messages_none types others (at + 1) ms ns p.1))

-- ---- where neither has another element, the elements are the same

fields_same : (types others : List TypeDef) (at : ℕ) (fs gs : List FieldDef) → other_fields types others at fs gs ≡ None → other_fields others types at gs fs ≡ None → pointwise (same_field types others) fs gs ≡ true
fields_same types others at [] [] p q = refl
fields_same types others at [] (g ∷ gs) p q = absurd (some_none q)
fields_same types others at (f ∷ fs) [] p q = absurd (some_none p)
fields_same types others at (f ∷ fs) (g ∷ gs) p q =
    let a = chosen_back _ _ _ p in let b = chosen_back _ _ _ q in both _ _ a.0 (fields_same types others (at + 1) fs gs a.1 b.1)

data_same : (at : ℕ) (ds es : List DataDef) → other_data at ds es ≡ None → other_data at es ds ≡ None → pointwise same_datum ds es ≡ true
data_same at [] [] p q = refl
data_same at [] (e ∷ es) p q = absurd (some_none q)
data_same at (d ∷ ds) [] p q = absurd (some_none p)
data_same at (d ∷ ds) (e ∷ es) p q =
    let a = chosen_back _ _ _ p in let b = chosen_back _ _ _ q in both _ _ a.0 (data_same (at + 1) ds es a.1 b.1)

groups_same : (types others : List TypeDef) (at : ℕ) (t u : GroupTree) → other_groups types others at t u ≡ None → other_groups others types at u t ≡ None → same_groups types others t u ≡ true
groups_same types others at no_groups no_groups p q = refl
groups_same types others at no_groups (group h deeper after) p q = absurd (some_none q)
groups_same types others at (group g inner rest) no_groups p q = absurd (some_none p)
groups_same types others at (group g inner rest) (group h deeper after) p q =
    let a = chosen_back _ _ _ p in
    let b = chosen_back _ _ _ q in
    let c = neither_back _ _ a.1 in
    let d = neither_back _ _ b.1 in
    let e = neither_back _ _ (under_back _ _ c.0) in
    let f = neither_back _ _ (under_back _ _ d.0) in
    let k = neither_back _ _ e.1 in
    let l = neither_back _ _ f.1 in
    both _ _ (both _ _ a.0 (both _ _ (fields_same types others 0 g.fields h.fields e.0 f.0) (both _ _ (groups_same types others 0 inner deeper k.0 l.0) (data_same 0 g.vars h.vars k.1 l.1)))) (groups_same types others (at + 1) rest after c.1 d.1)

messages_same : (types others : List TypeDef) (at : ℕ) (ms ns : List MessageDef) → other_messages types others at ms ns ≡ None → other_messages others types at ns ms ≡ None → pointwise (same_message types others) ms ns ≡ true
messages_same types others at [] [] p q = refl
messages_same types others at [] (n ∷ ns) p q = absurd (some_none q)
messages_same types others at (m ∷ ms) [] p q = absurd (some_none p)
messages_same types others at (m ∷ ms) (n ∷ ns) p q =
    let a = chosen_back _ _ _ p in
    let b = chosen_back _ _ _ q in
    let c = neither_back _ _ a.1 in
    let d = neither_back _ _ b.1 in
    let e = neither_back _ _ (under_back _ _ c.0) in
    let f = neither_back _ _ (under_back _ _ d.0) in
    let k = neither_back _ _ e.1 in
    let l = neither_back _ _ f.1 in
    both _ _ (both _ _ a.0 (both _ _ (fields_same types others 0 m.fields n.fields e.0 f.0) (both _ _ (groups_same types others 0 m.groups n.groups k.0 l.0) (data_same 0 m.vars n.vars k.1 l.1)))) (messages_same types others (at + 1) ms ns c.1 d.1)

-- ---- the whole

by_back : (b : Bool) (newer older : Schema) → difference_by b newer older ≡ None → (b ≡ true) × (first_difference older (projected older.version newer) ≡ None)
by_back true newer older p = (refl, p)
by_back false newer older p = absurd (some_none p)

by_none : (b : Bool) (newer older : Schema) → b ≡ true → first_difference older (projected older.version newer) ≡ None → difference_by b newer older ≡ None
by_none true newer older t p = p
by_none false newer older t p = absurd (false≢true t)

pub none_extends : (newer older : Schema) → difference_of newer older ≡ None → Extends newer older
none_extends newer older p =
    let a = chosen_back (nat_eq newer.id older.id && sameb order.the_type newer.order older.order) _ _ p in
    let b = parts (nat_eq newer.id older.id) _ a.0 in
    let c = by_back (nat_le older.version newer.version) newer older a.1 in
    let d = neither_back _ _ c.1 in
    record {
      id = (Decides-eqb newer.id older.id).0 b.0;
      order = (exact_bare order.the_type tt newer.order older.order).0 b.1;
      version = leb-true older.version newer.version c.0;
      elements = messages_same older.types newer.types 0 older.messages (projected older.version newer).messages d.0 d.1;
    }

pub extends_none : (newer older : Schema) → Extends newer older → difference_of newer older ≡ None
extends_none newer older e =
    let back = messages_flip older.types newer.types older.messages (projected older.version newer).messages in
    chosen _ _ _ (both _ _ ((Decides-eqb newer.id older.id).1 e.id) ((exact_bare order.the_type tt newer.order older.order).1 e.order)) (by_none (nat_le older.version newer.version) newer older (le-leb older.version newer.version e.version) (neither _ _ (messages_none older.types newer.types 0 older.messages _ e.elements) (messages_none newer.types older.types 0 _ older.messages (sym back ∙ e.elements))))
