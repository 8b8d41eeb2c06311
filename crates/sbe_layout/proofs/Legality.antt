-- The plan of a checked schema is legal.
use Rattle.std.proofs.Common.{◌≡◌, ℕ, zero, suc, ◌+◌, ◌<◌, length, get_or, ℤ, pos, sym, ap, subst, ◌∙◌, true, false, not, ◌&&◌, ◌||◌, IsTrue, nat_lt, Option, List, [], ◌∷◌, ◌++◌, arith}
use Rattle.std.specs.Prelude.{int_lt}
use Rattle.std.specs.Ordering.{int_cmp, eq_by_cmp}
use Rattle.std.proofs.lemmas.Cmp.{eq_by_cmp_equiv, int_cmp_total}
use Rattle.std.specs.FinSet as set
use Rattle.std.specs.List.{AllByRecursion, Contains}
use Rattle.std.proofs.lemmas.Bool.{or_parts, and_parts, not-false, true≢false, or_left, or_right, le-ltb}
use Rattle.sbe_prim.specs.declared.Primitive.{Primitive}
use Rattle.sbe_prim.specs.declared.Primitive.TheVariants as prims
use Rattle.sbe_prim.specs.Primitives.{holds, greatest_of}
use Rattle.schema_types.specs.declared.schema.Schema.{Schema}
use Rattle.schema_types.specs.declared.types.TypeDef.{TypeDef}
use Rattle.schema_types.specs.declared.messages.FieldDef.{FieldDef}
use Rattle.schema_types.specs.declared.messages.DataDef.{DataDef}
use Rattle.schema_types.specs.declared.messages.MessageDef.{MessageDef}
use Rattle.schema_types.specs.Groups.{GroupTree, no_groups, group}
use Rattle.sbe_schema.specs.declared.fault.PathStep.{PathStep}
use Rattle.sbe_schema.specs.declared.parent.Parent.{Parent}
use Rattle.sbe_schema.specs.Names.{Names, Numbers}
use Rattle.sbe_schema.specs.Offsets.{fields_end, block_length_of}
use Rattle.sbe_schema.specs.Layout.{is_below}
use Rattle.sbe_schema.specs.Kinds.{is_dimension, is_uint32}
use Rattle.sbe_schema.specs.Versions.{is_out_of_turn, is_lower, is_not_with_group}
use Rattle.sbe_schema.specs.Limits.{is_above, is_large_message}
use Rattle.std.specs.Int.{int_max}
use Rattle.sbe_schema.specs.declared.fault.TableArray.TheVariants.{Messages, Groups}
use Rattle.sbe_schema.specs.Places.{whole, message_table, group_table}
use Rattle.sbe_schema.specs.Walk.{path_step, place, walk, walk_types, walk_messages, walk_message, walk_block, walk_groups, walk_fields, walk_data, entry_of, root_of, names_of_fields, names_of_groups, ids_of_fields, ids_of_groups, ids_of_data}
use Rattle.sbe_schema.specs.Checked.{is_checked}
use Rattle.sbe_layout.specs.declared.plan.Plan.{Plan}
use Rattle.sbe_layout.specs.declared.plan.MessagePlan.{MessagePlan}
use Rattle.sbe_layout.specs.Plans.{plan_of, message_plan, message_plans, groups_plan, items_of_fields, marks_of, data_of, listings_of}
use Rattle.sbe_layout.specs.Legal.{IsLegalDatum, IsLegalBlock, AreLegalGroups, IsLegalMessage, AreOfOthers, HaveOwnTemplates, LegalPlan}
use Rattle.sbe_layout.proofs.Kept.{all_keep, checked_keep, kept_first, kept_parts, FieldsFit, fields_fit, FieldsCame, fields_came, DataFit, data_fit, TypesFit, types_fit}
use Rattle.sbe_layout.proofs.Within.{begins_behind, is_at_most, fields_small, fields_items, fields_marks, fields_in_order}

data_legal : (version : ℕ) (ds : List DataDef) → DataFit version ds → AllByRecursion (IsLegalDatum version) (data_of ds)
data_legal version [] h = tt
data_legal version (d ∷ ds) h =
    (record { came = ap not h.0.0; length = not-false (is_dimension d.length || is_uint32 d.length) h.0.1 }, data_legal version ds h.1)

block_legal : (version : ℕ) (types : List TypeDef) (stated : Option ℤ) (fs : List FieldDef) (ds : List DataDef) → TypesFit types types → FieldsFit types 0 fs → FieldsCame version fs → DataFit version ds → is_below stated (fields_end types 0 fs) ≡ false → is_above stated 16384 ≡ false
    → IsLegalBlock version (listings_of types) (block_length_of types stated fs) (items_of_fields types 0 fs) (marks_of types 0 fs) (data_of ds)
block_legal version types stated fs ds k h c d short long =
    let within = begins_behind stated (fields_end types 0 fs) short in
    let small = is_at_most stated 16384 (fields_end types 0 fs) long (fields_small types fs h) in
    record {
      bounded = small;
      each_item = fields_items version types (block_length_of types stated fs) 0 fs k (omega arith) h c within;
      in_order = fields_in_order types fs k h;
      each_field = fields_marks types (block_length_of types stated fs) 0 fs (omega arith) h within;
      each_datum = data_legal version ds d;
    }

-- a dimension that a length does not pass holds it
dimension_holds : (p : Primitive) (n : ℕ) → is_dimension p ≡ true → int_lt (greatest_of p) (pos n) ≡ false → holds p (pos n) ≡ true
dimension_holds prims.UInt8 n d e = λ i. not (le-ltb n 0 (omega arith) i) && not (e i)
dimension_holds prims.UInt16 n d e = λ i. not (le-ltb n 0 (omega arith) i) && not (e i)
dimension_holds _ n d e = absurd (true≢false (sym d))

groups_legal : (s : Schema) (base : List PathStep) (parent : Parent) (names : Names) (ids : Numbers) (least_since : ℤ) (at : ℕ) (gs : GroupTree) → TypesFit s.types s.types → all_keep s (walk_groups s.types base parent names ids least_since at gs) ≡ true → AreLegalGroups s.version (listings_of s.types) (groups_plan s.types gs)
groups_legal s base parent names ids least_since at no_groups k e = tt
groups_legal s base parent names ids least_since at (group g inner rest) k e =
    let below = base ++ path_step Groups at ∷ [] in
    let entry = entry_of parent g in
    let ids_here = set.insert ids (pos g.id) in
    let field_names = names_of_fields set.empty g.fields in
    let field_ids = ids_of_fields ids_here g.fields in
    let group_ids = ids_of_groups field_ids inner in
    let later = walk_groups s.types base parent (set.insert names g.name) (ids_of_data group_ids g.vars) (int_max least_since g.since) (at + 1) rest in
    let own_fields = walk_fields s.types below set.empty ids_here g.since 0 0 g.fields in
    let own_groups = walk_groups s.types below entry field_names field_ids g.since 0 inner in
    let own_data = walk_data below entry (names_of_groups field_names inner) group_ids g.since 0 g.vars in
    let self = place base Groups at names ids (group_table parent least_since g) in
    let split = kept_parts s (self ∷ (own_fields ++ (own_groups ++ own_data))) later e in
    let here = kept_first s self (own_fields ++ (own_groups ++ own_data)) split.0 in
    let fields = kept_parts s own_fields (own_groups ++ own_data) here.1 in
    let more = kept_parts s own_groups own_data fields.1 in
    let unfit = or_parts (not (is_dimension g.block_prim && is_dimension g.count_prim)) (int_lt (greatest_of g.block_prim) (pos (block_length_of s.types g.block_length g.fields))) here.0.1.1.1.1.1.1.1.0 in
    let dimension = not-false (is_dimension g.block_prim && is_dimension g.count_prim) unfit.0 in
    let turn = or_parts (is_out_of_turn s.version least_since g.since) (is_lower parent.lowest g.since || is_not_with_group parent g.since) here.0.1.1.1.1.1.1.1.1.1.0 in
    let limit = or_parts (is_above g.block_length 16384) (nat_lt 3 parent.depth) here.0.1.1.1.1.1.1.1.1.1.1.0 in (
      record {
        came = ap not (or_parts (int_lt (pos s.version) g.since) (int_lt g.since least_since) turn.0).0;
        dimension = dimension;
        held = dimension_holds g.block_prim (block_length_of s.types g.block_length g.fields) (and_parts (is_dimension g.block_prim) (is_dimension g.count_prim) dimension).0 unfit.1;
        block = block_legal s.version s.types g.block_length g.fields g.vars k (fields_fit s below set.empty ids_here g.since 0 0 g.fields fields.0) (fields_came s below set.empty ids_here g.since 0 0 g.fields fields.0) (data_fit s below entry (names_of_groups field_names inner) group_ids g.since 0 g.vars more.1) here.0.1.1.1.1.0 limit.0;
      },
      (groups_legal s below entry field_names field_ids g.since 0 inner k more.0, groups_legal s base parent (set.insert names g.name) (ids_of_data group_ids g.vars) (int_max least_since g.since) (at + 1) rest k split.1),
    )

messages_legal : (s : Schema) (names : Names) (ids : Numbers) (at : ℕ) (ms : List MessageDef) → TypesFit s.types s.types → all_keep s (walk_messages s.types names ids at ms) ≡ true → AllByRecursion (IsLegalMessage s.version (listings_of s.types)) (message_plans s.types ms)
messages_legal s names ids at [] k e = tt
messages_legal s names ids at (m ∷ ms) k e =
    let base = path_step Messages at ∷ [] in
    let parent = root_of m in
    let field_names = names_of_fields set.empty m.fields in
    let field_ids = ids_of_fields set.empty m.fields in
    let group_ids = ids_of_groups field_ids m.groups in
    let own_fields = walk_fields s.types base set.empty set.empty m.since 0 0 m.fields in
    let own_groups = walk_groups s.types base parent field_names field_ids m.since 0 m.groups in
    let own_data = walk_data base parent (names_of_groups field_names m.groups) group_ids m.since 0 m.vars in
    let split = kept_parts s (walk_message s.types names ids at m) (walk_messages s.types (set.insert names m.name) (set.insert ids (pos m.id)) (at + 1) ms) e in
    let here = kept_first s (place [] Messages at names ids (message_table m)) (own_fields ++ (own_groups ++ own_data)) split.0 in
    let fields = kept_parts s own_fields (own_groups ++ own_data) here.1 in
    let more = kept_parts s own_groups own_data fields.1 in
    let limit = or_parts (is_above m.block_length 16384) (is_large_message s.types m) here.0.1.1.1.1.1.1.1.1.1.1.0 in (
      record {
        block = block_legal s.version s.types m.block_length m.fields m.vars k (fields_fit s base set.empty set.empty m.since 0 0 m.fields fields.0) (fields_came s base set.empty set.empty m.since 0 0 m.fields fields.0) (data_fit s base parent (names_of_groups field_names m.groups) group_ids m.since 0 m.vars more.1) here.0.1.1.1.1.0 limit.0;
        groups = groups_legal s base parent field_names field_ids m.since 0 m.groups k more.0;
      },
      messages_legal s (set.insert names m.name) (set.insert ids (pos m.id)) (at + 1) ms k split.1,
    )

-- ---- templates

-- the number itself was inserted
same_id : (n : ℕ) → eq_by_cmp int_cmp (pos n) (pos n) ≡ true
same_id n = (eq_by_cmp_equiv int_cmp_total).refl (pos n)

-- an id that stands before is none of the messages behind
others : (s : Schema) (names : Names) (ids : Numbers) (at : ℕ) (ms : List MessageDef) (id : ℕ) → set.contains ids (pos id) ≡ true → all_keep s (walk_messages s.types names ids at ms) ≡ true → AreOfOthers id (message_plans s.types ms)
others s names ids at [] id before e = tt
others s names ids at (m ∷ ms) id before e =
    let split = kept_parts s (walk_message s.types names ids at m) (walk_messages s.types (set.insert names m.name) (set.insert ids (pos m.id)) (at + 1) ms) e in
    let here = kept_first s (place [] Messages at names ids (message_table m)) (walk_block s.types (path_step Messages at ∷ []) (root_of m) set.empty m.fields m.groups m.vars) split.0 in
    (λ same. true≢false (sym before ∙ ap (λ n. set.contains ids (pos n)) (sym same) ∙ here.0.1.0), others s (set.insert names m.name) (set.insert ids (pos m.id)) (at + 1) ms id (set.contains-insert int_cmp_total ids (pos m.id) (pos id) ∙ or_right (eq_by_cmp int_cmp (pos id) (pos m.id)) (set.contains ids (pos id)) before) split.1)

templates_differ : (s : Schema) (names : Names) (ids : Numbers) (at : ℕ) (ms : List MessageDef) → all_keep s (walk_messages s.types names ids at ms) ≡ true → HaveOwnTemplates (message_plans s.types ms)
templates_differ s names ids at [] e = tt
templates_differ s names ids at (m ∷ ms) e =
    let split = kept_parts s (walk_message s.types names ids at m) (walk_messages s.types (set.insert names m.name) (set.insert ids (pos m.id)) (at + 1) ms) e in
    (others s (set.insert names m.name) (set.insert ids (pos m.id)) (at + 1) ms m.id (set.contains-insert int_cmp_total ids (pos m.id) (pos m.id) ∙ or_left (eq_by_cmp int_cmp (pos m.id) (pos m.id)) (set.contains ids (pos m.id)) (same_id m.id)) split.1, templates_differ s (set.insert names m.name) (set.insert ids (pos m.id)) (at + 1) ms split.1)

pub legal : (s : Schema) → IsTrue (is_checked s) → LegalPlan (plan_of s)
unfolding walk
legal s checked =
    let tables = kept_first s (record { path_steps = []; names = set.empty; numbers = set.empty; table = whole }) (walk_types s.types set.empty 0 s.types ++ walk_messages s.types set.empty set.empty 0 s.messages) (checked_keep s checked) in
    let split = kept_parts s (walk_types s.types set.empty 0 s.types) (walk_messages s.types set.empty set.empty 0 s.messages) tables.1 in
    let types = types_fit s set.empty 0 s.types split.0 in
    record {
      templates = templates_differ s set.empty set.empty 0 s.messages split.1;
      messages = messages_legal s set.empty set.empty 0 s.messages types split.1;
    }

pub legal_plan : (s : Schema) (p : Plan) → IsTrue (is_checked s) → p ≡ plan_of s → LegalPlan p
legal_plan s p checked is = subst LegalPlan (sym is) (legal s checked)

-- the message at a place is legal where all are
legal_at : (types : List TypeDef) (P : MessagePlan → Type 0) (ms : List MessageDef) (k : ℕ) (m : MessageDef) → k < length ms → get_or ms k m ≡ m → AllByRecursion P (message_plans types ms) → P (message_plan types m)
legal_at types P [] k m h e all = absurd (omega arith)
legal_at types P (x ∷ ms) zero m h e all = subst (λ y. P (message_plan types y)) e all.0
legal_at types P (x ∷ ms) (suc k) m h e all = legal_at types P ms k m (omega arith) e all.1

pub legal_message : (s : Schema) (m : MessageDef) (p : MessagePlan) → p ≡ message_plan s.types m → IsTrue (is_checked s) → Contains s.messages m → IsLegalMessage s.version (listings_of s.types) p
legal_message s m p is checked (k, below, at) =
    subst (IsLegalMessage s.version (listings_of s.types)) (sym is) (legal_at s.types (IsLegalMessage s.version (listings_of s.types)) s.messages k m below at (legal s checked).messages)
