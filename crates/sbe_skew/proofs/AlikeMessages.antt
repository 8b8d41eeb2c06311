-- A message that bytes spell by a schema, they spell by another that has the same elements.
use Rattle.std.proofs.Common.{◌≡◌, inl, inr, ℕ, ◌∙◌, true, false, ◌&&◌, if◌then◌else◌, ◌==◌, refl, sym, ap, subst, not, IsTrue, Some, None, List, [], ◌∷◌, eq-eqb}
use Rattle.std.specs.Prelude.{⊤, nat_eq}
use Rattle.std.specs.Ordering.{int_eq}
use Rattle.std.specs.Cmp.Lexicographic.{pointwise, pointwise_decides}
use Rattle.std.proofs.lemmas.Bool.{false≢true}
use Rattle.std.proofs.lemmas.Bool.Decides.{Decides-eqb, Decides-int_eq}
use denote.Enum.Bare.{sameb}
use Rattle.lists.specs.Exact.{exact_bare}
use Rattle.sbe_prim.specs.contracts.Primitive as primitive
use Rattle.sbe_prim.specs.declared.Order.{Order}
use Rattle.sbe_prim.specs.declared.Primitive.TheVariants.{UInt16}
use Rattle.sbe_value.specs.declared.datum.Datum.{Datum}
use Rattle.sbe_value.specs.declared.message.Message.{Message}
use Rattle.sbe_value.specs.Trees.{GroupList, BlockList, no_groups, absent, entries, no_blocks, block, count_of_blocks}
use Rattle.schema_types.specs.Equal.{data_exact}
use Rattle.schema_types.specs.declared.schema.Schema.{Schema}
use Rattle.schema_types.specs.declared.types.TypeDef.{TypeDef}
use Rattle.schema_types.specs.declared.messages.DataDef.{DataDef}
use Rattle.schema_types.specs.declared.messages.MessageDef.{MessageDef}
use Rattle.schema_types.specs.Groups.{GroupHead, GroupTree, group, no_groups as no_defs}
use Rattle.sbe_schema.specs.Names.{same_name}
use Rattle.sbe_schema.specs.Checked.{is_checked}
use Rattle.sbe_layout.specs.declared.plan.MessagePlan.{MessagePlan}
use Rattle.sbe_layout.specs.Plans.{plan_of, data_of, group_head, groups_plan, items_of_fields, marks_of, message_plan, message_plans, message_of, HasTemplate}
use Rattle.sbe_grammar.specs.Parts.{Then, IsNumber}
use Rattle.sbe_grammar.specs.Values.{is_in}
use Rattle.sbe_grammar.specs.Spelling.{IsBlock, SpellsData, SpellsGroups, SpellsEntries, SpellsBy, Spells}
use Rattle.sbe_skew.specs.Restricted.{restricted}
use Rattle.sbe_skew.specs.Projected.{projected}
use Rattle.sbe_skew.specs.Extends.{Extends, same_field, same_datum, same_head, same_groups, same_template, same_message}
use Rattle.sbe_skew.proofs.Flips.{messages_flip}
use Rattle.sbe_skew.proofs.AlikeTypes.{and_parts}
use Rattle.sbe_skew.proofs.AlikeBlocks.{block_alike}
use Rattle.sbe_skew.proofs.OlderGroups.{behind_map, then_map}
use Rattle.sbe_skew.proofs.OlderMessages.{version_law}

-- ---- data and groups

data_alike : (order : Order) (version : ℕ) (vs : List Datum) (ds es : List DataDef) → pointwise same_datum ds es ≡ true → (bytes : List ℕ) → SpellsData order version vs (data_of ds) bytes → SpellsData order version vs (data_of es) bytes
data_alike order version vs ds es t bytes s =
    subst (λ ds. SpellsData order version vs (data_of ds) bytes) ((pointwise_decides data_exact ds es).0 t) s

record SameHead (g h : GroupHead) : Type 0 where
  block_prim : g.block_prim ≡ h.block_prim
  count_prim : g.count_prim ≡ h.count_prim
  since : g.since ≡ h.since

head_parts : (g h : GroupHead) → same_head g h ≡ true → SameHead g h
head_parts g h t =
    let a = and_parts (((same_name g.name h.name && nat_eq g.id h.id) && sameb primitive.the_type g.block_prim h.block_prim) && sameb primitive.the_type g.count_prim h.count_prim) (int_eq g.since h.since) t in
    let b = and_parts ((same_name g.name h.name && nat_eq g.id h.id) && sameb primitive.the_type g.block_prim h.block_prim) (sameb primitive.the_type g.count_prim h.count_prim) a.0 in
    let c = and_parts (same_name g.name h.name && nat_eq g.id h.id) (sameb primitive.the_type g.block_prim h.block_prim) b.0 in
    record {
      block_prim = (exact_bare primitive.the_type tt g.block_prim h.block_prim).0 c.1;
      count_prim = (exact_bare primitive.the_type tt g.count_prim h.count_prim).0 b.1;
      since = (Decides-int_eq g.since h.since).0 a.1;
    }

-- two groups and those behind them
record SameGroup (types others : List TypeDef) (g : GroupHead) (inner rest : GroupTree) (h : GroupHead) (deeper after : GroupTree) : Type 0 where
  head : SameHead g h
  fields : pointwise (same_field types others) g.fields h.fields ≡ true
  inside : same_groups types others inner deeper ≡ true
  vars : pointwise same_datum g.vars h.vars ≡ true
  behind : same_groups types others rest after ≡ true

group_parts : (types others : List TypeDef) (g : GroupHead) (inner rest : GroupTree) (h : GroupHead) (deeper after : GroupTree) → same_groups types others (group g inner rest) (group h deeper after) ≡ true → SameGroup types others g inner rest h deeper after
group_parts types others g inner rest h deeper after t =
    let a = and_parts (same_head g h && (pointwise (same_field types others) g.fields h.fields && (same_groups types others inner deeper && pointwise same_datum g.vars h.vars))) (same_groups types others rest after) t in
    let b = and_parts (same_head g h) (pointwise (same_field types others) g.fields h.fields && (same_groups types others inner deeper && pointwise same_datum g.vars h.vars)) a.0 in
    let c = and_parts (pointwise (same_field types others) g.fields h.fields) (same_groups types others inner deeper && pointwise same_datum g.vars h.vars) b.1 in
    let d = and_parts (same_groups types others inner deeper) (pointwise same_datum g.vars h.vars) c.1 in
    record { head = head_parts g h b.0; fields = c.0; inside = d.0; vars = d.1; behind = a.1 }

mutual
  groups_alike : (types others : List TypeDef) (order : Order) (version : ℕ) (gs : GroupList) (t u : GroupTree) → same_groups types others t u ≡ true → (bytes : List ℕ) → SpellsGroups order version gs (groups_plan types t) bytes → SpellsGroups order version gs (groups_plan others u) bytes
  groups_alike types others order version no_groups no_defs no_defs e bytes s = s
  groups_alike types others order version (absent gs) no_defs no_defs e bytes s = absurd s
  groups_alike types others order version (entries bs gs) no_defs no_defs e bytes s = absurd s
  groups_alike types others order version gs no_defs (group h deeper after) e bytes s = absurd (false≢true e)
  groups_alike types others order version gs (group g inner rest) no_defs e bytes s = absurd (false≢true e)
  groups_alike types others order version no_groups (group g inner rest) (group h deeper after) e bytes s = absurd s
  groups_alike types others order version (absent gs) (group g inner rest) (group h deeper after) e bytes s =
      let p = group_parts types others g inner rest h deeper after e in
      (subst (λ since. IsTrue (not (is_in version since))) p.head.since s.0, groups_alike types others order version gs rest after p.behind bytes s.1)
  groups_alike types others order version (entries bs gs) (group g inner rest) (group h deeper after) e bytes s =
      let p = group_parts types others g inner rest h deeper after e in
      (subst (λ since. IsTrue (is_in version since)) p.head.since s.0, (s.1.0, then_map (λ x n. subst (λ k. IsNumber order k s.1.0 x) p.head.block_prim n) (then_map (λ x n. subst (λ k. IsNumber order k (count_of_blocks bs) x) p.head.count_prim n) (then_map (entries_alike types others order version bs g h inner deeper s.1.0 p.fields p.inside p.vars) (groups_alike types others order version gs rest after p.behind))) bytes s.1.1))

  entries_alike : (types others : List TypeDef) (order : Order) (version : ℕ) (bs : BlockList) (g h : GroupHead) (inner deeper : GroupTree) (size : ℕ) → pointwise (same_field types others) g.fields h.fields ≡ true → same_groups types others inner deeper ≡ true → pointwise same_datum g.vars h.vars ≡ true → (bytes : List ℕ)
      → SpellsEntries order version bs (group_head types g) (groups_plan types inner) size bytes → SpellsEntries order version bs (group_head others h) (groups_plan others deeper) size bytes
  entries_alike types others order version no_blocks g h inner deeper size f i v bytes s = s
  entries_alike types others order version (block is gs vs bs) g h inner deeper size f i v bytes s =
      then_map (λ x b. block_alike types others order version size g.fields h.fields is x f b) (then_map (groups_alike types others order version gs inner deeper i) (then_map (data_alike order version vs g.vars h.vars v) (entries_alike types others order version bs g h inner deeper size f i v))) bytes s

-- ---- messages

template_id : (m n : MessageDef) → same_template m n ≡ true → m.id ≡ n.id
template_id m n t =
    let a = and_parts (same_name m.name n.name && nat_eq m.id n.id) (int_eq m.since n.since) t in
    (Decides-eqb m.id n.id).0 (and_parts (same_name m.name n.name) (nat_eq m.id n.id) a.0).1

record Partner (types others : List TypeDef) (t : ℕ) (ns : List MessageDef) (layout : MessagePlan) : Type 0 where
  message : MessageDef
  other : MessageDef
  is : layout ≡ message_plan types message
  found : Some (message_plan others other) ≡ message_of t (message_plans others ns)
  same : same_message types others message other ≡ true

some_same : {A : Type 0} (x y : A) → Some x ≡ Some y → x ≡ y
some_same x y p = ap (λ o. (elim o [ None ↦ x | Some z ↦ z ])) p

partner : (types others : List TypeDef) (t : ℕ) (ms ns : List MessageDef) (layout : MessagePlan) → pointwise (same_message types others) ms ns ≡ true → HasTemplate t (message_plans types ms) → Some layout ≡ message_of t (message_plans types ms) → Partner types others t ns layout
partner types others t [] ns layout e k f = absurd k
partner types others t (m ∷ ms) [] layout e k f = absurd (false≢true e)
partner types others t (m ∷ ms) (n ∷ ns) layout e k f =
    let p = and_parts (same_message types others m n) (pointwise (same_message types others) ms ns) e in
    let id = template_id m n (and_parts (same_template m n) _ p.0).0 in
    let rest = message_of t (message_plans types ms) in
    let other_rest = message_of t (message_plans others ns) in
    (elim (m.id == t) as (λ b. (m.id == t) ≡ b → Partner types others t (n ∷ ns) layout) [
      | true ↦ λ q. record {
        message = m;
        other = n;
        is = some_same layout (message_plan types m) (f ∙ (λ j. if q j then Some (message_plan types m) else rest));
        found = sym ((λ j. if sym id j == t then Some (message_plan others n) else other_rest) ∙ (λ j. if q j then Some (message_plan others n) else other_rest));
        same = p.0;
      }
      | false ↦ λ q. (
          let later : HasTemplate t (message_plans types ms) = elim k [ inl same ↦ absurd (false≢true (sym q ∙ eq-eqb m.id t same)) | inr more ↦ more ] in
          let found = partner types others t ms ns layout p.1 later (f ∙ (λ j. if q j then Some (message_plan types m) else rest)) in
          record {
            message = found.message;
            other = found.other;
            is = found.is;
            found = found.found ∙ sym ((λ j. if sym id j == t then Some (message_plan others n) else other_rest) ∙ (λ j. if q j then Some (message_plan others n) else other_rest));
            same = found.same;
          })
    ]) refl

has_too : (types others : List TypeDef) (t : ℕ) (ms ns : List MessageDef) → pointwise (same_message types others) ms ns ≡ true → HasTemplate t (message_plans types ms) → HasTemplate t (message_plans others ns)
has_too types others t [] ns e k = absurd k
has_too types others t (m ∷ ms) [] e k = absurd (false≢true e)
has_too types others t (m ∷ ms) (n ∷ ns) e (inl here) =
    let p = and_parts (same_message types others m n) (pointwise (same_message types others) ms ns) e in
    inl (sym (template_id m n (and_parts (same_template m n) _ p.0).0) ∙ here)
has_too types others t (m ∷ ms) (n ∷ ns) e (inr later) =
    let p = and_parts (same_message types others m n) (pointwise (same_message types others) ms ns) e in
    inr (has_too types others t ms ns p.1 later)

-- what stands behind the headers' numbers
spells_alike : (a b : Schema) (bytes : List ℕ) (m : Message) → a.order ≡ b.order → a.id ≡ b.id → pointwise (same_message a.types b.types) a.messages b.messages ≡ true → HasTemplate m.template (plan_of a).messages → Spells (plan_of a) bytes m → Spells (plan_of b) bytes m
spells_alike a b bytes m order id e k s =
    let f = partner a.types b.types m.template a.messages b.messages s.0 e k s.1.found in
    let d = f.message in
    let o = f.other in
    let own : SpellsBy (plan_of a) (message_plan a.types d) bytes m = subst (λ layout. SpellsBy (plan_of a) layout bytes m) f.is s.1 in
    let p = and_parts (same_template d o) (pointwise (same_field a.types b.types) d.fields o.fields && (same_groups a.types b.types d.groups o.groups && pointwise same_datum d.vars o.vars)) f.same in
    let q = and_parts (pointwise (same_field a.types b.types) d.fields o.fields) (same_groups a.types b.types d.groups o.groups && pointwise same_datum d.vars o.vars) p.1 in
    let r = and_parts (same_groups a.types b.types d.groups o.groups) (pointwise same_datum d.vars o.vars) q.1 in
    let joined =
    behind_map (behind_map (behind_map (behind_map (then_map (λ x y. block_alike a.types b.types a.order own.version own.size d.fields o.fields m.root.items x q.0 y) (then_map (groups_alike a.types b.types a.order own.version m.root.groups d.groups o.groups r.0) (then_map (data_alike a.order own.version m.root.vars d.vars o.vars r.1) (λ z w. w))))))) bytes own.joined in (
      message_plan b.types o,
      record {
        size = own.size;
        version = own.version;
        found = f.found;
        joined =
            subst (λ order. Then (IsNumber order UInt16 own.size) (Then (IsNumber order UInt16 m.template) (Then (IsNumber order UInt16 b.id) (Then (IsNumber order UInt16 own.version) (Then (IsBlock order own.version own.size (marks_of b.types 0 o.fields) (items_of_fields b.types 0 o.fields) m.root.items) (Then (SpellsGroups order own.version m.root.groups (groups_plan b.types o.groups)) (Then (SpellsData order own.version m.root.vars (data_of o.vars)) (λ rest. ⊤))))))) bytes) order (subst (λ id. Then (IsNumber a.order UInt16 own.size) (Then (IsNumber a.order UInt16 m.template) (Then (IsNumber a.order UInt16 id) (Then (IsNumber a.order UInt16 own.version) (Then (IsBlock a.order own.version own.size (marks_of b.types 0 o.fields) (items_of_fields b.types 0 o.fields) m.root.items) (Then (SpellsGroups a.order own.version m.root.groups (groups_plan b.types o.groups)) (Then (SpellsData a.order own.version m.root.vars (data_of o.vars)) (λ rest. ⊤))))))) bytes) id joined);
      },
    )

pub reader_law : (newer older : Schema) (bytes : List ℕ) (m : Message) → IsTrue (is_checked newer) → Extends newer older → HasTemplate m.template (plan_of older).messages → Spells (plan_of newer) bytes m → Spells (plan_of older) bytes (restricted (plan_of newer) m older.version)
reader_law newer older bytes m c e k s =
    let middle = projected older.version newer in
    let back : pointwise (same_message newer.types older.types) middle.messages older.messages ≡ true =
    sym (messages_flip older.types newer.types older.messages middle.messages) ∙ e.elements in
    let has : HasTemplate m.template (plan_of middle).messages = has_too older.types newer.types m.template older.messages middle.messages e.elements k in
    spells_alike middle older bytes (restricted (plan_of newer) m older.version) e.order e.id back has (version_law newer older.version bytes m c has s)
