-- The walk finds a duplicate name exactly where two names of one list or block are the same, or a type has the name of a primitive.
use Rattle.std.proofs.Common.{◌≡◌, ℕ, refl, sym, ap, ◌∙◌, Bool, ◌||◌, is_some, List, [], ◌∷◌, ◌++◌, map}
use Rattle.std.specs.List.{list_any}
use Rattle.std.specs.FinSet as set
use Rattle.sbe_schema.specs.declared.fault.SchemaKind.TheVariants.{DuplicateName}
use Rattle.schema_types.specs.declared.schema.Schema.{Schema}
use Rattle.schema_types.specs.declared.types.TypeDef.{TypeDef}
use Rattle.schema_types.specs.declared.types.TypeKind.{TypeKind}
use Rattle.schema_types.specs.declared.types.TypeKind.TheVariants.{Number, Enum, Set, Composite}
use Rattle.schema_types.specs.declared.messages.FieldDef.{FieldDef}
use Rattle.schema_types.specs.Groups.{GroupHead}
use Rattle.sbe_prim.specs.Names.{primitive_named}
use Rattle.sbe_schema.specs.Names.{Names, Numbers, same_name}
use Rattle.sbe_schema.specs.Places.{Table}
use Rattle.sbe_schema.specs.Walk.{walk, names_of_fields}
use Rattle.sbe_schema.specs.Checked.{breaks, occurs}
use Rattle.sbe_schema.specs.Blocks.{Block, blocks_of, names_in_block}
use Rattle.sbe_schema.specs.Faults.{any_pair, names_in, has_duplicate_name}
use Rattle.sbe_schema.proofs.Along.{or_assoc, or_swap, along, steps, along_append, along_pairs, any_same, pair-map}
use Rattle.sbe_schema.proofs.Parts.{parent_of, in_kind, in_block, names_of_heads, types_test, messages_test, parts_are, value_step, value_test, bit_step, bit_test, member_step, member_test, type_step, type_test, message_step, message_test, field_step, field_test, group_step, group_test, data_step, data_test}
use Rattle.sbe_schema.proofs.Twice.{put_name, has_name, name_adds, no_name, names_twice, names_along}

module _ (s : Schema) where
  abbrev U : Names → Numbers → Table → Bool
  U = breaks s DuplicateName

  types_are : (names : Names) (ts : List TypeDef) → along (type_step U) (type_test U) names ts ≡ (list_any (type_test U names) ts || any_pair (λ y x. same_name y.name x.name) ts)
  types_are =
      along_pairs (type_step U) (type_test U) (λ y x. same_name y.name x.name) (λ names x y. ap (λ b. b || is_some (primitive_named y.name)) (name_adds names x.name y.name) ∙ or_assoc (same_name y.name x.name) (set.contains names y.name) (is_some (primitive_named y.name)))

  types_is : types_test U s ≡ (any_pair same_name (map (λ t. t.name) s.types) || list_any (λ t. is_some (primitive_named t.name)) s.types)
  types_is =
      types_are set.empty s.types
      ∙ (λ i. any_same (type_test U set.empty) (λ t. is_some (primitive_named t.name)) (λ t. ap (λ b. b || is_some (primitive_named t.name)) (no_name t.name)) s.types i || sym (pair-map same_name (λ t. t.name) s.types) i)
      ∙ or_swap (list_any (λ t. is_some (primitive_named t.name)) s.types) (any_pair same_name (map (λ t. t.name) s.types))

  kind_is : (kind : TypeKind) → in_kind U s.types kind ≡ any_pair same_name (names_in kind)
  kind_is (Number prim length null low high) = refl
  kind_is (Enum prim values) = names_along (value_step U) (value_test U prim) (λ r. r.0) (λ v. v.name) (λ r v. refl) (λ r v. refl) (set.empty, set.empty) values ∙ names_twice (map (λ v. v.name) values)
  kind_is (Set prim bits) = names_along (bit_step U) (bit_test U prim) (λ r. r.0) (λ b. b.name) (λ r b. refl) (λ r b. refl) (set.empty, set.empty) bits ∙ names_twice (map (λ b. b.name) bits)
  kind_is (Composite members) = names_along (member_step U s.types) (member_test U) (λ r. r.0) (λ m. m.name) (λ r m. refl) (λ r m. refl) (set.empty, 0) members ∙ names_twice (map (λ m. m.name) members)

  messages_are : messages_test U s ≡ any_pair same_name (map (λ m. m.name) s.messages)
  messages_are = names_along (message_step U) (message_test U) (λ r. r.0) (λ m. m.name) (λ r m. refl) (λ r m. refl) (set.empty, set.empty) s.messages ∙ names_twice (map (λ m. m.name) s.messages)

  -- ---- blocks

  names_after_fields : (names : Names) (fs : List FieldDef) → names_of_fields names fs ≡ steps put_name has_name names (map (λ f. f.name) fs)
  names_after_fields names [] = refl
  names_after_fields names (f ∷ fs) = names_after_fields (set.insert names f.name) fs

  names_after_heads : (names : Names) (gs : List GroupHead) → names_of_heads U names gs ≡ steps put_name has_name names (map (λ g. g.name) gs)
  names_after_heads names [] = refl
  names_after_heads names (g ∷ gs) = names_after_heads (set.insert names g.name) gs

  block_is : (b : Block) → in_block U s.types b ≡ any_pair same_name (names_in_block b)
  block_is b =
      let first : List (List ℕ) = map (λ f. f.name) b.fields in
      let second : List (List ℕ) = map (λ g. g.name) b.groups in
      let third : List (List ℕ) = map (λ d. d.name) b.vars in
      let fields = names_along (field_step U s.types) (field_test U) (λ r. r.0) (λ f. f.name) (λ r f. refl) (λ r f. refl) (set.empty, (b.since, 0)) b.fields in
      let heads = names_along (group_step U) (group_test U (parent_of b)) (λ r. r.0) (λ g. g.name) (λ r g. refl) (λ r g. refl) (names_of_fields set.empty b.fields, b.since) b.groups in
      let vars = names_along (data_step U) (data_test U (parent_of b)) (λ r. r.0) (λ d. d.name) (λ r d. refl) (λ r d. refl) (names_of_heads U (names_of_fields set.empty b.fields) b.groups, b.since) b.vars in
      let after : names_of_fields set.empty b.fields ≡ steps put_name has_name set.empty first = names_after_fields set.empty b.fields in
      (λ i. fields i || (heads i || vars i))
      ∙ (λ i. along put_name has_name set.empty first || (along put_name has_name (after i) second || along put_name has_name (names_after_heads (after i) b.groups i) third))
      ∙ sym (along_append put_name has_name set.empty first (second ++ third) ∙ ap (λ x. along put_name has_name set.empty first || x) (along_append put_name has_name (steps put_name has_name set.empty first) second third))
      ∙ names_twice (names_in_block b)

  pub names_are : list_any (occurs s DuplicateName) (walk s) ≡ has_duplicate_name s
  names_are =
      parts_are U (λ names ids least_since end f. refl) (λ names ids parent least_since g. refl) (λ names ids parent least_since d. refl) s (any_pair same_name (map (λ t. t.name) s.types) || list_any (λ t. is_some (primitive_named t.name)) s.types) (list_any (λ t. any_pair same_name (names_in t.kind)) s.types) (any_pair same_name (map (λ m. m.name) s.messages)) (list_any (λ b. any_pair same_name (names_in_block b)) (blocks_of s.messages)) types_is (any_same (λ t. in_kind U s.types t.kind) (λ t. any_pair same_name (names_in t.kind)) (λ t. kind_is t.kind) s.types) messages_are (any_same (in_block U s.types) (λ b. any_pair same_name (names_in_block b)) block_is (blocks_of s.messages))
      ∙ or_assoc (any_pair same_name (map (λ t. t.name) s.types) || list_any (λ t. is_some (primitive_named t.name)) s.types) (list_any (λ t. any_pair same_name (names_in t.kind)) s.types) (any_pair same_name (map (λ m. m.name) s.messages) || list_any (λ b. any_pair same_name (names_in_block b)) (blocks_of s.messages))
