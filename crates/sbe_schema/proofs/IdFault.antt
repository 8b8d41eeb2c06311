-- The walk finds a duplicate id exactly where two messages, or two elements of one message, have one id.
use Rattle.std.proofs.Common.{◌≡◌, ℕ, ◌+◌, ℤ, pos, refl, sym, ap, ◌∙◌, Bool, false, ◌||◌, List, [], ◌∷◌, ◌++◌, map, nat_eq}
use Rattle.std.proofs.lemmas.List.Folds.{list_any-append}
use Rattle.std.specs.List.{list_any}
use Rattle.std.specs.Int.{int_max}
use Rattle.std.specs.FinSet as set
use Rattle.sbe_schema.specs.declared.fault.SchemaKind.TheVariants.{DuplicateId}
use Rattle.sbe_schema.specs.declared.fault.PathStep.{PathStep}
use Rattle.sbe_schema.specs.declared.fault.TableArray.TheVariants.{Groups, Messages}
use Rattle.sbe_schema.specs.declared.parent.Parent.{Parent}
use Rattle.schema_types.specs.declared.schema.Schema.{Schema}
use Rattle.schema_types.specs.declared.types.TypeDef.{TypeDef}
use Rattle.schema_types.specs.declared.types.TypeKind.{TypeKind}
use Rattle.schema_types.specs.declared.types.TypeKind.TheVariants.{Number, Enum, Set, Composite}
use Rattle.schema_types.specs.declared.messages.MessageDef.{MessageDef}
use Rattle.schema_types.specs.declared.messages.FieldDef.{FieldDef}
use Rattle.schema_types.specs.declared.messages.DataDef.{DataDef}
use Rattle.schema_types.specs.Groups.{GroupTree, no_groups, group}
use Rattle.sbe_schema.specs.Names.{Names, Numbers}
use Rattle.sbe_schema.specs.Offsets.{field_end}
use Rattle.sbe_schema.specs.Places.{Place, Table}
use Rattle.sbe_schema.specs.Walk.{path_step, walk, walk_fields, walk_groups, walk_data, walk_block, walk_messages, entry_of, root_of, names_of_fields, names_of_groups, ids_of_fields, ids_of_groups, ids_of_data}
use Rattle.sbe_schema.specs.Checked.{breaks, occurs}
use Rattle.sbe_schema.specs.Blocks.{ids_between, ids_in_groups, ids_in_message}
use Rattle.sbe_schema.specs.Faults.{any_pair, has_duplicate_id}
use Rattle.sbe_schema.proofs.Along.{or_assoc, or_middle, along, steps, along_append, steps_append, along_none, any_none}
use Rattle.sbe_schema.proofs.Parts.{at_place, in_kind, types_are, of_walk, type_step, type_test, value_step, value_test, bit_step, bit_test, member_step, member_test}
use Rattle.sbe_schema.proofs.Twice.{put_id, has_id, ids_twice}

abbrev twice : Numbers → List ℕ → Bool
twice ids ns = along put_id has_id ids ns

abbrev after : Numbers → List ℕ → Numbers
after ids ns = steps put_id has_id ids ns

module _ (s : Schema) where
  abbrev U : Names → Numbers → Table → Bool
  U = breaks s DuplicateId

  abbrev found : List Place → Bool
  found ps = list_any (at_place U) ps

  kind_is : (kind : TypeKind) → in_kind U s.types kind ≡ false
  kind_is (Number prim length null low high) = refl
  kind_is (Enum prim values) = along_none (value_step U) (value_test U prim) (λ r v. refl) (set.empty, set.empty) values
  kind_is (Set prim bits) = along_none (bit_step U) (bit_test U prim) (λ r b. refl) (set.empty, set.empty) bits
  kind_is (Composite members) = along_none (member_step U s.types) (member_test U) (λ r m. refl) (set.empty, 0) members

  fields_are : (types : List TypeDef) (base : List PathStep) (names : Names) (ids : Numbers) (least_since : ℤ) (end at : ℕ) (fs : List FieldDef) → found (walk_fields types base names ids least_since end at fs) ≡ twice ids (map (λ f. f.id) fs)
  fields_are types base names ids least_since end at [] = refl
  fields_are types base names ids least_since end at (f ∷ fs) = ap (λ b. has_id ids f.id || b) (fields_are types base (set.insert names f.name) (set.insert ids (pos f.id)) (int_max least_since f.since) (field_end types end f) (at + 1) fs)

  data_are : (base : List PathStep) (parent : Parent) (names : Names) (ids : Numbers) (least_since : ℤ) (at : ℕ) (ds : List DataDef) → found (walk_data base parent names ids least_since at ds) ≡ twice ids (map (λ d. d.id) ds)
  data_are base parent names ids least_since at [] = refl
  data_are base parent names ids least_since at (d ∷ ds) = ap (λ b. has_id ids d.id || b) (data_are base parent (set.insert names d.name) (set.insert ids (pos d.id)) (int_max least_since d.since) (at + 1) ds)

  -- the ids behind some elements
  after_fields : (ids : Numbers) (fs : List FieldDef) → ids_of_fields ids fs ≡ after ids (map (λ f. f.id) fs)
  after_fields ids [] = refl
  after_fields ids (f ∷ fs) = after_fields (set.insert ids (pos f.id)) fs

  after_data : (ids : Numbers) (ds : List DataDef) → ids_of_data ids ds ≡ after ids (map (λ d. d.id) ds)
  after_data ids [] = refl
  after_data ids (d ∷ ds) = after_data (set.insert ids (pos d.id)) ds

  after_between : (ids : Numbers) (fields : List FieldDef) (tree : GroupTree) (vars : List DataDef) → ((r : Numbers) → ids_of_groups r tree ≡ after r (ids_in_groups tree)) → ids_of_data (ids_of_groups (ids_of_fields ids fields) tree) vars ≡ after ids (ids_between fields (ids_in_groups tree) vars)
  after_between ids fields tree vars groups =
      let first : List ℕ = map (λ f. f.id) fields in
      let third : List ℕ = map (λ d. d.id) vars in
      after_data (ids_of_groups (ids_of_fields ids fields) tree) vars
      ∙ ap (λ r. after r third) (ap (λ r. ids_of_groups r tree) (after_fields ids fields) ∙ groups (after ids first))
      ∙ sym (steps_append put_id has_id ids first (ids_in_groups tree ++ third) ∙ steps_append put_id has_id (after ids first) (ids_in_groups tree) third)

  after_groups : (tree : GroupTree) (ids : Numbers) → ids_of_groups ids tree ≡ after ids (ids_in_groups tree)
  after_groups no_groups ids = refl
  after_groups (group g inner rest) ids =
      after_groups rest (ids_of_data (ids_of_groups (ids_of_fields (set.insert ids (pos g.id)) g.fields) inner) g.vars)
      ∙ ap (λ r. after r (ids_in_groups rest)) (after_between (set.insert ids (pos g.id)) g.fields inner g.vars (after_groups inner))
      ∙ sym (steps_append put_id has_id (set.insert ids (pos g.id)) (ids_between g.fields (ids_in_groups inner) g.vars) (ids_in_groups rest))

  -- what is owed of the groups of a block
  abbrev GroupsAre : List TypeDef → List PathStep → Parent → Names → Numbers → ℤ → ℕ → GroupTree → Type 0
  GroupsAre types base parent names ids least_since at tree = found (walk_groups types base parent names ids least_since at tree) ≡ twice ids (ids_in_groups tree)

  block_is : (types : List TypeDef) (base : List PathStep) (parent : Parent) (ids : Numbers) (fields : List FieldDef) (tree : GroupTree) (vars : List DataDef) → GroupsAre types base parent (names_of_fields set.empty fields) (ids_of_fields ids fields) parent.since 0 tree → found (walk_block types base parent ids fields tree vars) ≡ twice ids (ids_between fields (ids_in_groups tree) vars)
  block_is types base parent ids fields tree vars groups =
      let names : Names = names_of_fields set.empty fields in
      let field_ids : Numbers = ids_of_fields ids fields in
      let one : List Place = walk_fields types base set.empty ids parent.since 0 0 fields in
      let two : List Place = walk_groups types base parent names field_ids parent.since 0 tree in
      let three : List Place = walk_data base parent (names_of_groups names tree) (ids_of_groups field_ids tree) parent.since 0 vars in
      let first : List ℕ = map (λ f. f.id) fields in
      let second : List ℕ = ids_in_groups tree in
      let third : List ℕ = map (λ d. d.id) vars in
      list_any-append (at_place U) one (two ++ three)
      ∙ ap (λ b. found one || b) (list_any-append (at_place U) two three)
      ∙ (λ i. fields_are types base set.empty ids parent.since 0 0 fields i || (groups i || data_are base parent (names_of_groups names tree) (ids_of_groups field_ids tree) parent.since 0 vars i))
      ∙ (λ i. twice ids first || (twice (after_fields ids fields i) second || twice (after_groups tree (after_fields ids fields i) i) third))
      ∙ sym (along_append put_id has_id ids first (second ++ third) ∙ ap (λ b. twice ids first || b) (along_append put_id has_id (after ids first) second third))

  groups_are : (types : List TypeDef) (base : List PathStep) (parent : Parent) (names : Names) (ids : Numbers) (least_since : ℤ) (at : ℕ) (tree : GroupTree) → GroupsAre types base parent names ids least_since at tree
  groups_are types base parent names ids least_since at no_groups = refl
  groups_are types base parent names ids least_since at (group g inner rest) =
      let here : List PathStep = base ++ path_step Groups at ∷ [] in
      let entry : Parent = entry_of parent g in
      let new_ids : Numbers = set.insert ids (pos g.id) in
      let field_ids : Numbers = ids_of_fields new_ids g.fields in
      let group_ids : Numbers = ids_of_data (ids_of_groups field_ids inner) g.vars in
      let inside : List Place = walk_block types here entry new_ids g.fields inner g.vars in
      let more : List Place = walk_groups types base parent (set.insert names g.name) group_ids (int_max least_since g.since) (at + 1) rest in
      let between : List ℕ = ids_between g.fields (ids_in_groups inner) g.vars in
      let block = block_is types here entry new_ids g.fields inner g.vars (groups_are types here entry (names_of_fields set.empty g.fields) field_ids g.since 0 inner) in
      let others = groups_are types base parent (set.insert names g.name) group_ids (int_max least_since g.since) (at + 1) rest in
      ap (λ b. has_id ids g.id || b) (list_any-append (at_place U) inside more ∙ (λ i. block i || others i) ∙ (λ i. twice new_ids between || twice (after_between new_ids g.fields inner g.vars (λ r. after_groups inner r) i) (ids_in_groups rest)) ∙ sym (along_append put_id has_id new_ids between (ids_in_groups rest)))

  messages_are : (types : List TypeDef) (names : Names) (ids : Numbers) (at : ℕ) (ms : List MessageDef) → found (walk_messages types names ids at ms) ≡ (twice ids (map (λ m. m.id) ms) || list_any (λ m. any_pair nat_eq (ids_in_message m)) ms)
  messages_are types names ids at [] = refl
  messages_are types names ids at (m ∷ ms) =
      let here : List PathStep = path_step Messages at ∷ [] in
      let inside : List Place = walk_block types here (root_of m) set.empty m.fields m.groups m.vars in
      let more : List Place = walk_messages types (set.insert names m.name) (set.insert ids (pos m.id)) (at + 1) ms in
      let block = block_is types here (root_of m) set.empty m.fields m.groups m.vars (groups_are types here (root_of m) (names_of_fields set.empty m.fields) (ids_of_fields set.empty m.fields) m.since 0 m.groups) ∙ ids_twice (ids_in_message m) in
      let others = messages_are types (set.insert names m.name) (set.insert ids (pos m.id)) (at + 1) ms in
      ap (λ b. has_id ids m.id || b) (list_any-append (at_place U) inside more ∙ (λ i. block i || others i))
      ∙ sym (or_assoc (has_id ids m.id) (any_pair nat_eq (ids_in_message m)) (twice (put_id ids m.id) (map (λ m. m.id) ms) || list_any (λ m. any_pair nat_eq (ids_in_message m)) ms))
      ∙ or_middle (has_id ids m.id) (any_pair nat_eq (ids_in_message m)) (twice (put_id ids m.id) (map (λ m. m.id) ms)) (list_any (λ m. any_pair nat_eq (ids_in_message m)) ms)

  pub ids_are : list_any (occurs s DuplicateId) (walk s) ≡ has_duplicate_id s
  ids_are =
      of_walk U s
      ∙ (λ i. types_are U s.types set.empty 0 s.types i || messages_are s.types set.empty set.empty 0 s.messages i)
      ∙ (λ i. (along_none (type_step U) (type_test U) (λ r t. refl) set.empty s.types i || any_none (λ t. in_kind U s.types t.kind) (λ t. kind_is t.kind) s.types i) || (ids_twice (map (λ m. m.id) s.messages) i || list_any (λ m. any_pair nat_eq (ids_in_message m)) s.messages))
