-- What a test finds on the walk: something in the schema as a whole, in a type, in a message, or in a block.
use Rattle.std.proofs.Common.{◌≡◌, ℕ, zero, suc, ◌+◌, min, ℤ, pos, refl, sym, ap, ◌∙◌, Bool, true, false, ◌||◌, Option, None, List, [], ◌∷◌, ◌++◌, arith}
use Rattle.std.proofs.lemmas.List.Folds.{list_any-append}
use Rattle.std.specs.List.{list_any}
use Rattle.std.specs.Int.{int_max}
use Rattle.std.specs.FinSet as set
use Rattle.sbe_prim.specs.declared.Primitive.{Primitive}
use Rattle.sbe_schema.specs.declared.fault.PathStep.{PathStep}
use Rattle.sbe_schema.specs.declared.fault.TableArray.TheVariants.{Types, Groups, Messages}
use Rattle.sbe_schema.specs.declared.parent.Parent.{Parent}
use Rattle.schema_types.specs.declared.schema.Schema.{Schema}
use Rattle.schema_types.specs.declared.types.TypeDef.{TypeDef}
use Rattle.schema_types.specs.declared.types.TypeKind.{TypeKind}
use Rattle.schema_types.specs.declared.types.TypeKind.TheVariants.{Number, Enum, Set, Composite}
use Rattle.schema_types.specs.declared.types.ValueDef.{ValueDef}
use Rattle.schema_types.specs.declared.types.BitDef.{BitDef}
use Rattle.schema_types.specs.declared.types.MemberDef.{MemberDef}
use Rattle.schema_types.specs.declared.messages.MessageDef.{MessageDef}
use Rattle.schema_types.specs.declared.messages.FieldDef.{FieldDef}
use Rattle.schema_types.specs.declared.messages.DataDef.{DataDef}
use Rattle.schema_types.specs.Groups.{GroupHead, GroupTree, no_groups, group}
use Rattle.sbe_schema.specs.Names.{Names, Numbers}
use Rattle.sbe_schema.specs.Offsets.{member_end, field_end}
use Rattle.sbe_schema.specs.Places.{Place, Table, whole, type_table, value_table, bit_table, member_table, message_table, field_table, group_table, data_table}
use Rattle.sbe_schema.specs.Walk.{path_step, walk_values, walk_bits, walk_members, walk_kind, walk_types, walk_fields, walk_groups, walk_data, walk_block, walk_messages, walk, root_of, entry_of, lowest_since, names_of_fields, names_of_groups, ids_of_fields, ids_of_groups, ids_of_data}
use Rattle.sbe_schema.specs.Blocks.{Block, heads_of, entry_block, root_block, blocks_below, blocks_of_message, blocks_of}
use Rattle.sbe_schema.proofs.Along.{or_middle, or_assoc, or_swap, along, steps}

-- the lowest since of the data of a root block
abbrev pub lowest_of : ℕ → List DataDef → Option ℤ
lowest_of zero vars = lowest_since vars
lowest_of (suc level) vars = None

-- a block as what its elements see of it
abbrev pub parent_of : Block → Parent
parent_of b = record { depth = min b.level 4; since = b.since; lowest = lowest_of b.level b.vars }

module _ (U : Names → Numbers → Table → Bool) where
  abbrev pub at_place : Place → Bool
  at_place p = U p.names p.numbers p.table

  -- ---- the states of the lists

  abbrev pub value_step : Names × Numbers → ValueDef → Names × Numbers
  value_step s v = (set.insert s.0 v.name, set.insert s.1 v.value)

  abbrev pub value_test : Primitive → Names × Numbers → ValueDef → Bool
  value_test prim s v = U s.0 s.1 (value_table prim v)

  abbrev pub bit_step : Names × Numbers → BitDef → Names × Numbers
  bit_step s b = (set.insert s.0 b.name, set.insert s.1 (pos b.bit))

  abbrev pub bit_test : Primitive → Names × Numbers → BitDef → Bool
  bit_test prim s b = U s.0 s.1 (bit_table prim b)

  abbrev pub member_step : List TypeDef → Names × ℕ → MemberDef → Names × ℕ
  member_step types s m = (set.insert s.0 m.name, member_end types s.1 m)

  abbrev pub member_test : Names × ℕ → MemberDef → Bool
  member_test s m = U s.0 set.empty (member_table s.1 m)

  abbrev pub type_step : Names → TypeDef → Names
  type_step s t = set.insert s t.name

  abbrev pub type_test : Names → TypeDef → Bool
  type_test s t = U s set.empty (type_table t)

  abbrev pub message_step : Names × Numbers → MessageDef → Names × Numbers
  message_step s m = (set.insert s.0 m.name, set.insert s.1 (pos m.id))

  abbrev pub message_test : Names × Numbers → MessageDef → Bool
  message_test s m = U s.0 s.1 (message_table m)

  abbrev pub field_step : List TypeDef → Names × (ℤ × ℕ) → FieldDef → Names × (ℤ × ℕ)
  field_step types s f = (set.insert s.0 f.name, (int_max s.1.0 f.since, field_end types s.1.1 f))

  abbrev pub field_test : Names × (ℤ × ℕ) → FieldDef → Bool
  field_test s f = U s.0 set.empty (field_table s.1.0 s.1.1 f)

  abbrev pub group_step : Names × ℤ → GroupHead → Names × ℤ
  group_step s g = (set.insert s.0 g.name, int_max s.1 g.since)

  abbrev pub group_test : Parent → Names × ℤ → GroupHead → Bool
  group_test parent s g = U s.0 set.empty (group_table parent s.1 g)

  abbrev pub data_step : Names × ℤ → DataDef → Names × ℤ
  data_step s d = (set.insert s.0 d.name, int_max s.1 d.since)

  abbrev pub data_test : Parent → Names × ℤ → DataDef → Bool
  data_test parent s d = U s.0 set.empty (data_table parent s.1 d)

  -- ---- in a type, and in a block

  abbrev pub in_kind : List TypeDef → TypeKind → Bool
  in_kind types (Number prim length null low high) = false
  in_kind types (Enum prim values) = along value_step (value_test prim) (set.empty, set.empty) values
  in_kind types (Set prim bits) = along bit_step (bit_test prim) (set.empty, set.empty) bits
  in_kind types (Composite members) = along (member_step types) member_test (set.empty, 0) members

  abbrev pub names_of_heads : Names → List GroupHead → Names
  names_of_heads names gs = steps (λ s g. set.insert s g.name) (λ s g. false) names gs

  abbrev pub in_fields : List TypeDef → Block → Bool
  in_fields types b = along (field_step types) field_test (set.empty, (b.since, 0)) b.fields

  abbrev pub in_heads : Block → Bool
  in_heads b = along group_step (group_test (parent_of b)) (names_of_fields set.empty b.fields, b.since) b.groups

  abbrev pub in_vars : Block → Bool
  in_vars b = along data_step (data_test (parent_of b)) (names_of_heads (names_of_fields set.empty b.fields) b.groups, b.since) b.vars

  abbrev pub in_block : List TypeDef → Block → Bool
  in_block types b = in_fields types b || (in_heads b || in_vars b)

  values_are : (base : List PathStep) (prim : Primitive) (names : Names) (numbers : Numbers) (at : ℕ) (vs : List ValueDef) → list_any at_place (walk_values base prim names numbers at vs) ≡ along value_step (value_test prim) (names, numbers) vs
  values_are base prim names numbers at [] = refl
  values_are base prim names numbers at (v ∷ vs) = ap (λ b. U names numbers (value_table prim v) || b) (values_are base prim (set.insert names v.name) (set.insert numbers v.value) (at + 1) vs)

  bits_are : (base : List PathStep) (prim : Primitive) (names : Names) (numbers : Numbers) (at : ℕ) (bs : List BitDef) → list_any at_place (walk_bits base prim names numbers at bs) ≡ along bit_step (bit_test prim) (names, numbers) bs
  bits_are base prim names numbers at [] = refl
  bits_are base prim names numbers at (b ∷ bs) = ap (λ x. U names numbers (bit_table prim b) || x) (bits_are base prim (set.insert names b.name) (set.insert numbers (pos b.bit)) (at + 1) bs)

  members_are : (types : List TypeDef) (base : List PathStep) (names : Names) (end at : ℕ) (ms : List MemberDef) → list_any at_place (walk_members types base names end at ms) ≡ along (member_step types) member_test (names, end) ms
  members_are types base names end at [] = refl
  members_are types base names end at (m ∷ ms) = ap (λ b. U names set.empty (member_table end m) || b) (members_are types base (set.insert names m.name) (member_end types end m) (at + 1) ms)

  kind_is : (types : List TypeDef) (base : List PathStep) (kind : TypeKind) → list_any at_place (walk_kind types base kind) ≡ in_kind types kind
  kind_is types base (Number prim length null low high) = refl
  kind_is types base (Enum prim values) = values_are base prim set.empty set.empty 0 values
  kind_is types base (Set prim bits) = bits_are base prim set.empty set.empty 0 bits
  kind_is types base (Composite members) = members_are types base set.empty 0 0 members

  pub types_are : (types : List TypeDef) (names : Names) (at : ℕ) (ts : List TypeDef) → list_any at_place (walk_types types names at ts) ≡ (along type_step type_test names ts || list_any (λ t. in_kind types t.kind) ts)
  types_are types names at [] = refl
  types_are types names at (t ∷ ts) =
      let inside : List Place = walk_kind types (path_step Types at ∷ []) t.kind in
      ap (λ b. type_test names t || b) (list_any-append at_place inside (walk_types types (set.insert names t.name) (at + 1) ts) ∙ (λ i. kind_is types (path_step Types at ∷ []) t.kind i || types_are types (set.insert names t.name) (at + 1) ts i))
      ∙ sym (or_assoc (type_test names t) (in_kind types t.kind) _)
      ∙ or_middle (type_test names t) (in_kind types t.kind) (along type_step type_test (set.insert names t.name) ts) (list_any (λ t. in_kind types t.kind) ts)

  -- ---- blocks, where the test of their elements asks for no numbers

  module _ (fields_blind : (names : Names) (ids : Numbers) (least_since : ℤ) (end : ℕ) (f : FieldDef) → U names ids (field_table least_since end f) ≡ U names set.empty (field_table least_since end f)) (groups_blind : (names : Names) (ids : Numbers) (parent : Parent) (least_since : ℤ) (g : GroupHead) → U names ids (group_table parent least_since g) ≡ U names set.empty (group_table parent least_since g)) (data_blind : (names : Names) (ids : Numbers) (parent : Parent) (least_since : ℤ) (d : DataDef) → U names ids (data_table parent least_since d) ≡ U names set.empty (data_table parent least_since d)) where
    fields_are : (types : List TypeDef) (base : List PathStep) (names : Names) (ids : Numbers) (least_since : ℤ) (end at : ℕ) (fs : List FieldDef) → list_any at_place (walk_fields types base names ids least_since end at fs) ≡ along (field_step types) field_test (names, (least_since, end)) fs
    fields_are types base names ids least_since end at [] = refl
    fields_are types base names ids least_since end at (f ∷ fs) =
        λ i. fields_blind names ids least_since end f i || fields_are types base (set.insert names f.name) (set.insert ids (pos f.id)) (int_max least_since f.since) (field_end types end f) (at + 1) fs i

    data_are : (base : List PathStep) (parent : Parent) (names : Names) (ids : Numbers) (least_since : ℤ) (at : ℕ) (ds : List DataDef) → list_any at_place (walk_data base parent names ids least_since at ds) ≡ along data_step (data_test parent) (names, least_since) ds
    data_are base parent names ids least_since at [] = refl
    data_are base parent names ids least_since at (d ∷ ds) =
        λ i. data_blind names ids parent least_since d i || data_are base parent (set.insert names d.name) (set.insert ids (pos d.id)) (int_max least_since d.since) (at + 1) ds i

    names_are : (names : Names) (tree : GroupTree) → names_of_groups names tree ≡ names_of_heads names (heads_of tree)
    names_are names no_groups = refl
    names_are names (group g inner rest) = names_are (set.insert names g.name) rest

    -- what is owed of the groups in a block of a level
    abbrev GroupsAre : List TypeDef → List PathStep → Parent → Names → Numbers → ℤ → ℕ → ℕ → GroupTree → Type 0
    GroupsAre types base parent names ids least_since at level tree = list_any at_place (walk_groups types base parent names ids least_since at tree) ≡ (along group_step (group_test parent) (names, least_since) (heads_of tree) || list_any (in_block types) (blocks_below level tree))

    one_of : (f g i d : Bool) → (f || ((g || i) || d)) ≡ ((f || (g || d)) || i)
    one_of true g i d = refl
    one_of false true i d = refl
    one_of false false i d = or_swap i d

    block_is : (types : List TypeDef) (base : List PathStep) (parent : Parent) (ids : Numbers) (tree : GroupTree) (b : Block) → parent ≡ parent_of b → b.groups ≡ heads_of tree
        → GroupsAre types base parent (names_of_fields set.empty b.fields) (ids_of_fields ids b.fields) parent.since 0 b.level tree
        → list_any at_place (walk_block types base parent ids b.fields tree b.vars) ≡ (in_block types b || list_any (in_block types) (blocks_below b.level tree))
    block_is types base parent ids tree b same heads groups =
        let names : Names = names_of_fields set.empty b.fields in
        let field_ids : Numbers = ids_of_fields ids b.fields in
        let first : List Place = walk_fields types base set.empty ids parent.since 0 0 b.fields in
        let second : List Place = walk_groups types base parent names field_ids parent.since 0 tree in
        let third : List Place = walk_data base parent (names_of_groups names tree) (ids_of_groups field_ids tree) parent.since 0 b.vars in
        list_any-append at_place first (second ++ third)
        ∙ ap (λ x. list_any at_place first || x) (list_any-append at_place second third)
        ∙ (λ i. fields_are types base set.empty ids parent.since 0 0 b.fields i || (groups i || data_are base parent (names_of_groups names tree) (ids_of_groups field_ids tree) parent.since 0 b.vars i))
        ∙ (λ i. along (field_step types) field_test (set.empty, ((same i).since, 0)) b.fields || ((along group_step (group_test (same i)) (names, (same i).since) (sym heads i) || list_any (in_block types) (blocks_below b.level tree)) || along data_step (data_test (same i)) ((names_are names tree ∙ ap (names_of_heads names) (sym heads)) i, (same i).since) b.vars))
        ∙ one_of (in_fields types b) (in_heads b) (list_any (in_block types) (blocks_below b.level tree)) (in_vars b)

    entry_is : (parent : Parent) (level : ℕ) (g : GroupHead) (inner : GroupTree) → parent.depth ≡ min level 4 → entry_of parent g ≡ parent_of (entry_block level g inner)
    entry_is parent level g inner deep = let depth : min (parent.depth + 1) 4 ≡ min (suc level) 4 = omega arith in λ i. record { depth = depth i; since = g.since; lowest = None }

    regrouped : (h e i g r : Bool) → (h || ((e || i) || (g || r))) ≡ ((h || g) || (e || (i || r)))
    regrouped true e i g r = refl
    regrouped false true i true r = refl
    regrouped false true i false r = refl
    regrouped false false true true r = refl
    regrouped false false true false r = refl
    regrouped false false false g r = refl

    groups_are : (types : List TypeDef) (base : List PathStep) (parent : Parent) (names : Names) (ids : Numbers) (least_since : ℤ) (at level : ℕ) (tree : GroupTree) → parent.depth ≡ min level 4 → GroupsAre types base parent names ids least_since at level tree
    groups_are types base parent names ids least_since at level no_groups deep = refl
    groups_are types base parent names ids least_since at level (group g inner rest) deep =
        let here : List PathStep = base ++ path_step Groups at ∷ [] in
        let entry : Parent = entry_of parent g in
        let b : Block = entry_block level g inner in
        let new_ids : Numbers = set.insert ids (pos g.id) in
        let field_ids : Numbers = ids_of_fields new_ids g.fields in
        let inner_deep : min (parent.depth + 1) 4 ≡ min (suc level) 4 = omega arith in
        let block = block_is types here entry new_ids inner b (entry_is parent level g inner deep) refl (groups_are types here entry (names_of_fields set.empty g.fields) field_ids g.since 0 (suc level) inner inner_deep) in
        let inside : List Place = walk_block types here entry new_ids g.fields inner g.vars in
        let group_ids : Numbers = ids_of_data (ids_of_groups field_ids inner) g.vars in
        let others = groups_are types base parent (set.insert names g.name) group_ids (int_max least_since g.since) (at + 1) level rest deep in
        let more : List Place = walk_groups types base parent (set.insert names g.name) group_ids (int_max least_since g.since) (at + 1) rest in
        (λ i. groups_blind names ids parent least_since g i || list_any-append at_place inside more i)
        ∙ (λ i. group_test parent (names, least_since) g || (block i || others i))
        ∙ regrouped (group_test parent (names, least_since) g) (in_block types b) (list_any (in_block types) (blocks_below (suc level) inner)) (along group_step (group_test parent) (set.insert names g.name, int_max least_since g.since) (heads_of rest)) (list_any (in_block types) (blocks_below level rest))
        ∙ ap (λ x. along group_step (group_test parent) (names, least_since) (g ∷ heads_of rest) || (in_block types b || x)) (sym (list_any-append (in_block types) (blocks_below (suc level) inner) (blocks_below level rest)))

    pub messages_are : (types : List TypeDef) (names : Names) (ids : Numbers) (at : ℕ) (ms : List MessageDef) → list_any at_place (walk_messages types names ids at ms) ≡ (along message_step message_test (names, ids) ms || list_any (in_block types) (blocks_of ms))
    messages_are types names ids at [] = refl
    messages_are types names ids at (m ∷ ms) =
        let here : List PathStep = path_step Messages at ∷ [] in
        let b : Block = root_block m in
        let block = block_is types here (root_of m) set.empty m.groups b refl refl (groups_are types here (root_of m) (names_of_fields set.empty m.fields) (ids_of_fields set.empty m.fields) m.since 0 0 m.groups refl) in
        let inside : List Place = walk_block types here (root_of m) set.empty m.fields m.groups m.vars in
        let others = messages_are types (set.insert names m.name) (set.insert ids (pos m.id)) (at + 1) ms in
        let more : List Place = walk_messages types (set.insert names m.name) (set.insert ids (pos m.id)) (at + 1) ms in
        ap (λ x. message_test (names, ids) m || x) (list_any-append at_place inside more ∙ (λ i. block i || others i))
        ∙ sym (or_assoc (message_test (names, ids) m) (list_any (in_block types) (blocks_of_message m)) (along message_step message_test (set.insert names m.name, set.insert ids (pos m.id)) ms || list_any (in_block types) (blocks_of ms)))
        ∙ or_middle (message_test (names, ids) m) (list_any (in_block types) (blocks_of_message m)) (along message_step message_test (set.insert names m.name, set.insert ids (pos m.id)) ms) (list_any (in_block types) (blocks_of ms))
        ∙ ap (λ x. along message_step message_test (names, ids) (m ∷ ms) || x) (sym (list_any-append (in_block types) (blocks_of_message m) (blocks_of ms)))

  -- ---- the whole walk

  pub of_walk : (s : Schema) → list_any at_place (walk s) ≡ (U set.empty set.empty whole || (list_any at_place (walk_types s.types set.empty 0 s.types) || list_any at_place (walk_messages s.types set.empty set.empty 0 s.messages)))
  unfolding walk
  of_walk s = ap (λ b. U set.empty set.empty whole || b) (list_any-append at_place (walk_types s.types set.empty 0 s.types) (walk_messages s.types set.empty set.empty 0 s.messages))

  abbrev pub types_test : Schema → Bool
  types_test s = along type_step type_test set.empty s.types

  abbrev pub messages_test : Schema → Bool
  messages_test s = along message_step message_test (set.empty, set.empty) s.messages

  module _ (fields_blind : (names : Names) (ids : Numbers) (least_since : ℤ) (end : ℕ) (f : FieldDef) → U names ids (field_table least_since end f) ≡ U names set.empty (field_table least_since end f)) (groups_blind : (names : Names) (ids : Numbers) (parent : Parent) (least_since : ℤ) (g : GroupHead) → U names ids (group_table parent least_since g) ≡ U names set.empty (group_table parent least_since g)) (data_blind : (names : Names) (ids : Numbers) (parent : Parent) (least_since : ℤ) (d : DataDef) → U names ids (data_table parent least_since d) ≡ U names set.empty (data_table parent least_since d)) where
    -- what each part finds is what the walk finds
    pub parts_are : (s : Schema) (T K M B : Bool) → types_test s ≡ T → list_any (λ t. in_kind s.types t.kind) s.types ≡ K → messages_test s ≡ M → list_any (in_block s.types) (blocks_of s.messages) ≡ B
        → list_any at_place (walk s) ≡ (U set.empty set.empty whole || ((T || K) || (M || B)))
    parts_are s T K M B t k m b =
        of_walk s
        ∙ (λ i. U set.empty set.empty whole || (types_are s.types set.empty 0 s.types i || messages_are fields_blind groups_blind data_blind s.types set.empty set.empty 0 s.messages i))
        ∙ (λ i. U set.empty set.empty whole || ((t i || k i) || (m i || b i)))
