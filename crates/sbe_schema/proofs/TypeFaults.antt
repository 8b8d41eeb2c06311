-- What the walk finds of types, offsets, lengths, enums, sets, dimensions and data.
use Rattle.std.proofs.Common.{◌≡◌, ℕ, ◌*◌, min, pos, nat_lt, nat_eq, refl, sym, ap, ◌∙◌, Bool, false, not, ◌||◌, List, [], ◌∷◌, map}
use Rattle.std.specs.List.{list_any}
use Rattle.std.specs.Ordering.{int_eq}
use Rattle.std.specs.FinSet as set
use Rattle.sbe_prim.specs.Primitives.{size_of, least_of, greatest_of, lies_within}
use Rattle.sbe_schema.specs.declared.fault.SchemaKind.TheVariants.{UnknownType, BadOffset, ShortLength, BadEnum, BadSet, BadDimension, BadData}
use Rattle.schema_types.specs.declared.schema.Schema.{Schema}
use Rattle.schema_types.specs.declared.types.TypeDef.{TypeDef}
use Rattle.schema_types.specs.declared.types.TypeKind.{TypeKind}
use Rattle.schema_types.specs.declared.types.TypeKind.TheVariants.{Number, Enum, Set, Composite}
use Rattle.schema_types.specs.declared.types.MemberDef.{MemberDef}
use Rattle.schema_types.specs.declared.messages.FieldDef.{FieldDef}
use Rattle.sbe_schema.specs.Names.{Names, Numbers}
use Rattle.sbe_schema.specs.Places.{Table}
use Rattle.sbe_schema.specs.Offsets.{member_end, field_end}
use Rattle.sbe_schema.specs.Layout.{is_below}
use Rattle.sbe_schema.specs.Walk.{walk, names_of_fields}
use Rattle.sbe_schema.specs.Meanings.{meaning_of}
use Rattle.sbe_schema.specs.Identity.{is_unknown, is_composite}
use Rattle.sbe_schema.specs.Kinds.{is_bad_enum_kind, is_bad_set_kind, is_dimension, is_uint32}
use Rattle.sbe_schema.specs.Checked.{breaks, occurs}
use Rattle.sbe_schema.specs.Sums.{stands_below, end_of_member, end_of_members, end_of_field, end_of_fields}
use Rattle.sbe_schema.specs.Blocks.{Block, blocks_of}
use Rattle.sbe_schema.specs.Faults.{any_pair, with_earlier, members_in, has_unknown_type, is_low_member, is_misplaced_field, has_bad_offset, has_short_length, has_bad_values, has_bad_enum, has_bad_bits, has_bad_set, is_bad_dimension_of, has_bad_dimension, has_bad_data}
use Rattle.sbe_schema.proofs.Along.{or_false, or_assoc, or_swap, along, steps, along_none, along_any, along_pairs, along_part, along_earlier, any_none, any_same, any_or, pair-map}
use Rattle.sbe_schema.proofs.Parts.{parent_of, in_kind, in_block, names_of_heads, parts_are, value_step, value_test, bit_step, bit_test, member_step, member_test, type_step, type_test, message_step, message_test, field_step, field_test, group_step, group_test, data_step, data_test}
use Rattle.sbe_schema.proofs.Twice.{number_adds, no_number, same_ids}
use Rattle.sbe_schema.proofs.Sizes.{most, member_end_is, field_end_is, below_is, long_is, short_is, dimension_is}

-- ---- unknown types

module _ (s : Schema) where
  abbrev Unknown : Names → Numbers → Table → Bool
  Unknown = breaks s UnknownType

  unknown_in : (kind : TypeKind) → in_kind Unknown s.types kind ≡ list_any (λ m. is_unknown (meaning_of s.types m.type_name) || is_composite (meaning_of s.types m.type_name)) (members_in kind)
  unknown_in (Number prim length null low high) = refl
  unknown_in (Enum prim values) = along_none (value_step Unknown) (value_test Unknown prim) (λ r v. refl) (set.empty, set.empty) values
  unknown_in (Set prim bits) = along_none (bit_step Unknown) (bit_test Unknown prim) (λ r b. refl) (set.empty, set.empty) bits
  unknown_in (Composite members) = along_any (member_step Unknown s.types) (member_test Unknown) (λ m. is_unknown (meaning_of s.types m.type_name) || is_composite (meaning_of s.types m.type_name)) (λ r m. refl) (set.empty, 0) members

  unknown_block : (b : Block) → in_block Unknown s.types b ≡ list_any (λ f. is_unknown (meaning_of s.types f.type_name)) b.fields
  unknown_block b =
      (λ i. along_any (field_step Unknown s.types) (field_test Unknown) (λ f. is_unknown (meaning_of s.types f.type_name)) (λ r f. refl) (set.empty, (b.since, 0)) b.fields i || (along_none (group_step Unknown) (group_test Unknown (parent_of b)) (λ r g. refl) (names_of_fields set.empty b.fields, b.since) b.groups i || along_none (data_step Unknown) (data_test Unknown (parent_of b)) (λ r d. refl) (names_of_heads Unknown (names_of_fields set.empty b.fields) b.groups, b.since) b.vars i))
      ∙ or_false (list_any (λ f. is_unknown (meaning_of s.types f.type_name)) b.fields)

  pub unknown_are : list_any (occurs s UnknownType) (walk s) ≡ has_unknown_type s
  unknown_are =
      parts_are Unknown (λ names ids least_since end f. refl) (λ names ids parent least_since g. refl) (λ names ids parent least_since d. refl) s false (list_any (λ t. list_any (λ m. is_unknown (meaning_of s.types m.type_name) || is_composite (meaning_of s.types m.type_name)) (members_in t.kind)) s.types) false (list_any (λ b. list_any (λ f. is_unknown (meaning_of s.types f.type_name)) b.fields) (blocks_of s.messages)) (along_none (type_step Unknown) (type_test Unknown) (λ r t. refl) set.empty s.types) (any_same (λ t. in_kind Unknown s.types t.kind) (λ t. list_any (λ m. is_unknown (meaning_of s.types m.type_name) || is_composite (meaning_of s.types m.type_name)) (members_in t.kind)) (λ t. unknown_in t.kind) s.types) (along_none (message_step Unknown) (message_test Unknown) (λ r m. refl) (set.empty, set.empty) s.messages) (any_same (in_block Unknown s.types) (λ b. list_any (λ f. is_unknown (meaning_of s.types f.type_name)) b.fields) unknown_block (blocks_of s.messages))

-- ---- offsets

module _ (types : List TypeDef) where
  abbrev misplaced : ℕ → FieldDef → Bool
  misplaced end f = stands_below f.offset end || nat_lt 16384 (end_of_field types end f)

  members_behind : (end : ℕ) (ms : List MemberDef) → steps (end_of_member types) (λ e m. stands_below m.offset e) end ms ≡ end_of_members types end ms
  members_behind end [] = refl
  members_behind end (m ∷ ms) = members_behind (end_of_member types end m) ms

  fields_behind : (end : ℕ) (fs : List FieldDef) → steps (end_of_field types) misplaced end fs ≡ end_of_fields types end fs
  fields_behind end [] = refl
  fields_behind end (f ∷ fs) = fields_behind (end_of_field types end f) fs

  members_placed : (ms : List MemberDef) → along (member_end types) (λ e m. is_below m.offset e) 0 ms ≡ list_any (is_low_member types) (with_earlier ms)
  members_placed ms =
      sym (along_part (end_of_member types) (λ e m. stands_below m.offset e) (member_end types) (λ e m. is_below m.offset e) (λ e. min e most) (λ e m. sym (member_end_is types e m)) (λ e m. sym (below_is m.offset e)) 0 ms)
      ∙ along_earlier (end_of_member types) (λ e m. stands_below m.offset e) 0 ms
      ∙ any_same (λ p. stands_below p.1.offset (steps (end_of_member types) (λ e m. stands_below m.offset e) 0 p.0)) (is_low_member types) (λ p. ap (stands_below p.1.offset) (members_behind 0 p.0)) (with_earlier ms)

  fields_placed : (fs : List FieldDef) → along (field_end types) (λ e f. is_below f.offset e || nat_lt 16384 (field_end types e f)) 0 fs ≡ list_any (is_misplaced_field types) (with_earlier fs)
  fields_placed fs =
      sym (along_part (end_of_field types) misplaced (field_end types) (λ e f. is_below f.offset e || nat_lt 16384 (field_end types e f)) (λ e. min e most) (λ e f. sym (field_end_is types e f)) (λ e f i. sym (below_is f.offset e) i || sym (long_is types e f) i) 0 fs)
      ∙ along_earlier (end_of_field types) misplaced 0 fs
      ∙ any_same (λ p. misplaced (steps (end_of_field types) misplaced 0 p.0) p.1) (is_misplaced_field types) (λ p. ap (λ e. misplaced e p.1) (fields_behind 0 p.0)) (with_earlier fs)

module _ (s : Schema) where
  abbrev Offset : Names → Numbers → Table → Bool
  Offset = breaks s BadOffset

  offsets_in : (kind : TypeKind) → in_kind Offset s.types kind ≡ list_any (is_low_member s.types) (with_earlier (members_in kind))
  offsets_in (Number prim length null low high) = refl
  offsets_in (Enum prim values) = along_none (value_step Offset) (value_test Offset prim) (λ r v. refl) (set.empty, set.empty) values
  offsets_in (Set prim bits) = along_none (bit_step Offset) (bit_test Offset prim) (λ r b. refl) (set.empty, set.empty) bits
  offsets_in (Composite members) =
      along_part (member_step Offset s.types) (member_test Offset) (member_end s.types) (λ e m. is_below m.offset e) (λ r. r.1) (λ r m. refl) (λ r m. refl) (set.empty, 0) members ∙ members_placed s.types members

  offsets_block : (b : Block) → in_block Offset s.types b ≡ list_any (is_misplaced_field s.types) (with_earlier b.fields)
  offsets_block b =
      (λ i. (along_part (field_step Offset s.types) (field_test Offset) (field_end s.types) (λ e f. is_below f.offset e || nat_lt 16384 (field_end s.types e f)) (λ r. r.1.1) (λ r f. refl) (λ r f. refl) (set.empty, (b.since, 0)) b.fields ∙ fields_placed s.types b.fields) i || (along_none (group_step Offset) (group_test Offset (parent_of b)) (λ r g. refl) (names_of_fields set.empty b.fields, b.since) b.groups i || along_none (data_step Offset) (data_test Offset (parent_of b)) (λ r d. refl) (names_of_heads Offset (names_of_fields set.empty b.fields) b.groups, b.since) b.vars i))
      ∙ or_false (list_any (is_misplaced_field s.types) (with_earlier b.fields))

  pub offsets_are : list_any (occurs s BadOffset) (walk s) ≡ has_bad_offset s
  offsets_are =
      parts_are Offset (λ names ids least_since end f. refl) (λ names ids parent least_since g. refl) (λ names ids parent least_since d. refl) s false (list_any (λ t. list_any (is_low_member s.types) (with_earlier (members_in t.kind))) s.types) false (list_any (λ b. list_any (is_misplaced_field s.types) (with_earlier b.fields)) (blocks_of s.messages)) (along_none (type_step Offset) (type_test Offset) (λ r t. refl) set.empty s.types) (any_same (λ t. in_kind Offset s.types t.kind) (λ t. list_any (is_low_member s.types) (with_earlier (members_in t.kind))) (λ t. offsets_in t.kind) s.types) (along_none (message_step Offset) (message_test Offset) (λ r m. refl) (set.empty, set.empty) s.messages) (any_same (in_block Offset s.types) (λ b. list_any (is_misplaced_field s.types) (with_earlier b.fields)) offsets_block (blocks_of s.messages))

-- ---- block lengths

module _ (s : Schema) where
  abbrev Short : Names → Numbers → Table → Bool
  Short = breaks s ShortLength

  short_in : (kind : TypeKind) → in_kind Short s.types kind ≡ false
  short_in (Number prim length null low high) = refl
  short_in (Enum prim values) = along_none (value_step Short) (value_test Short prim) (λ r v. refl) (set.empty, set.empty) values
  short_in (Set prim bits) = along_none (bit_step Short) (bit_test Short prim) (λ r b. refl) (set.empty, set.empty) bits
  short_in (Composite members) = along_none (member_step Short s.types) (member_test Short) (λ r m. refl) (set.empty, 0) members

  short_block : (b : Block) → in_block Short s.types b ≡ list_any (λ g. stands_below g.block_length (end_of_fields s.types 0 g.fields)) b.groups
  short_block b =
      (λ i. along_none (field_step Short s.types) (field_test Short) (λ r f. refl) (set.empty, (b.since, 0)) b.fields i || (along_any (group_step Short) (group_test Short (parent_of b)) (λ g. stands_below g.block_length (end_of_fields s.types 0 g.fields)) (λ r g. short_is s.types g.block_length g.fields) (names_of_fields set.empty b.fields, b.since) b.groups i || along_none (data_step Short) (data_test Short (parent_of b)) (λ r d. refl) (names_of_heads Short (names_of_fields set.empty b.fields) b.groups, b.since) b.vars i))
      ∙ or_false (list_any (λ g. stands_below g.block_length (end_of_fields s.types 0 g.fields)) b.groups)

  pub short_are : list_any (occurs s ShortLength) (walk s) ≡ has_short_length s
  short_are =
      parts_are Short (λ names ids least_since end f. refl) (λ names ids parent least_since g. refl) (λ names ids parent least_since d. refl) s false false (list_any (λ m. stands_below m.block_length (end_of_fields s.types 0 m.fields)) s.messages) (list_any (λ b. list_any (λ g. stands_below g.block_length (end_of_fields s.types 0 g.fields)) b.groups) (blocks_of s.messages)) (along_none (type_step Short) (type_test Short) (λ r t. refl) set.empty s.types) (any_none (λ t. in_kind Short s.types t.kind) (λ t. short_in t.kind) s.types) (along_any (message_step Short) (message_test Short) (λ m. stands_below m.block_length (end_of_fields s.types 0 m.fields)) (λ r m. short_is s.types m.block_length m.fields) (set.empty, set.empty) s.messages) (any_same (in_block Short s.types) (λ b. list_any (λ g. stands_below g.block_length (end_of_fields s.types 0 g.fields)) b.groups) short_block (blocks_of s.messages))

-- ---- a fault that no block has

module _ (s : Schema) where
  abbrev Enums : Names → Numbers → Table → Bool
  Enums = breaks s BadEnum

  enums_in : (kind : TypeKind) → in_kind Enums s.types kind ≡ has_bad_values kind
  enums_in (Number prim length null low high) = refl
  enums_in (Enum prim values) =
      along_pairs (value_step Enums) (value_test Enums prim) (λ y x. int_eq y.value x.value) (λ r x y. ap (λ b. b || not (lies_within (least_of prim) (greatest_of prim) y.value)) (number_adds r.1 x.value y.value) ∙ or_assoc (int_eq y.value x.value) (set.contains r.1 y.value) (not (lies_within (least_of prim) (greatest_of prim) y.value))) (set.empty, set.empty) values
      ∙ (λ i. any_same (value_test Enums prim (set.empty, set.empty)) (λ v. not (lies_within (least_of prim) (greatest_of prim) v.value)) (λ v. ap (λ b. b || not (lies_within (least_of prim) (greatest_of prim) v.value)) (no_number v.value)) values i || sym (pair-map int_eq (λ v. v.value) values) i)
      ∙ or_swap (list_any (λ v. not (lies_within (least_of prim) (greatest_of prim) v.value)) values) (any_pair int_eq (map (λ v. v.value) values))
  enums_in (Set prim bits) = along_none (bit_step Enums) (bit_test Enums prim) (λ r b. refl) (set.empty, set.empty) bits
  enums_in (Composite members) = along_none (member_step Enums s.types) (member_test Enums) (λ r m. refl) (set.empty, 0) members

  enums_block : (b : Block) → in_block Enums s.types b ≡ false
  enums_block b =
      λ i. along_none (field_step Enums s.types) (field_test Enums) (λ r f. refl) (set.empty, (b.since, 0)) b.fields i || (along_none (group_step Enums) (group_test Enums (parent_of b)) (λ r g. refl) (names_of_fields set.empty b.fields, b.since) b.groups i || along_none (data_step Enums) (data_test Enums (parent_of b)) (λ r d. refl) (names_of_heads Enums (names_of_fields set.empty b.fields) b.groups, b.since) b.vars i)

  pub enums_are : list_any (occurs s BadEnum) (walk s) ≡ has_bad_enum s
  enums_are =
      parts_are Enums (λ names ids least_since end f. refl) (λ names ids parent least_since g. refl) (λ names ids parent least_since d. refl) s (list_any (λ t. is_bad_enum_kind t.kind) s.types) (list_any (λ t. has_bad_values t.kind) s.types) false false (along_any (type_step Enums) (type_test Enums) (λ t. is_bad_enum_kind t.kind) (λ r t. refl) set.empty s.types) (any_same (λ t. in_kind Enums s.types t.kind) (λ t. has_bad_values t.kind) (λ t. enums_in t.kind) s.types) (along_none (message_step Enums) (message_test Enums) (λ r m. refl) (set.empty, set.empty) s.messages) (any_none (in_block Enums s.types) enums_block (blocks_of s.messages))
      ∙ or_false (list_any (λ t. is_bad_enum_kind t.kind) s.types || list_any (λ t. has_bad_values t.kind) s.types)
      ∙ sym (any_or (λ t. is_bad_enum_kind t.kind) (λ t. has_bad_values t.kind) s.types)

module _ (s : Schema) where
  abbrev Sets : Names → Numbers → Table → Bool
  Sets = breaks s BadSet

  sets_in : (kind : TypeKind) → in_kind Sets s.types kind ≡ has_bad_bits kind
  sets_in (Number prim length null low high) = refl
  sets_in (Enum prim values) = along_none (value_step Sets) (value_test Sets prim) (λ r v. refl) (set.empty, set.empty) values
  sets_in (Set prim bits) =
      along_pairs (bit_step Sets) (bit_test Sets prim) (λ y x. nat_eq y.bit x.bit) (λ r x y. ap (λ b. b || not (nat_lt y.bit (8 * size_of prim))) (number_adds r.1 (pos x.bit) (pos y.bit) ∙ ap (λ b. b || set.contains r.1 (pos y.bit)) (same_ids x.bit y.bit)) ∙ or_assoc (nat_eq y.bit x.bit) (set.contains r.1 (pos y.bit)) (not (nat_lt y.bit (8 * size_of prim)))) (set.empty, set.empty) bits
      ∙ (λ i. any_same (bit_test Sets prim (set.empty, set.empty)) (λ b. not (nat_lt b.bit (8 * size_of prim))) (λ b. ap (λ x. x || not (nat_lt b.bit (8 * size_of prim))) (no_number (pos b.bit))) bits i || sym (pair-map nat_eq (λ b. b.bit) bits) i)
      ∙ or_swap (list_any (λ b. not (nat_lt b.bit (8 * size_of prim))) bits) (any_pair nat_eq (map (λ b. b.bit) bits))
  sets_in (Composite members) = along_none (member_step Sets s.types) (member_test Sets) (λ r m. refl) (set.empty, 0) members

  sets_block : (b : Block) → in_block Sets s.types b ≡ false
  sets_block b =
      λ i. along_none (field_step Sets s.types) (field_test Sets) (λ r f. refl) (set.empty, (b.since, 0)) b.fields i || (along_none (group_step Sets) (group_test Sets (parent_of b)) (λ r g. refl) (names_of_fields set.empty b.fields, b.since) b.groups i || along_none (data_step Sets) (data_test Sets (parent_of b)) (λ r d. refl) (names_of_heads Sets (names_of_fields set.empty b.fields) b.groups, b.since) b.vars i)

  pub sets_are : list_any (occurs s BadSet) (walk s) ≡ has_bad_set s
  sets_are =
      parts_are Sets (λ names ids least_since end f. refl) (λ names ids parent least_since g. refl) (λ names ids parent least_since d. refl) s (list_any (λ t. is_bad_set_kind t.kind) s.types) (list_any (λ t. has_bad_bits t.kind) s.types) false false (along_any (type_step Sets) (type_test Sets) (λ t. is_bad_set_kind t.kind) (λ r t. refl) set.empty s.types) (any_same (λ t. in_kind Sets s.types t.kind) (λ t. has_bad_bits t.kind) (λ t. sets_in t.kind) s.types) (along_none (message_step Sets) (message_test Sets) (λ r m. refl) (set.empty, set.empty) s.messages) (any_none (in_block Sets s.types) sets_block (blocks_of s.messages))
      ∙ or_false (list_any (λ t. is_bad_set_kind t.kind) s.types || list_any (λ t. has_bad_bits t.kind) s.types)
      ∙ sym (any_or (λ t. is_bad_set_kind t.kind) (λ t. has_bad_bits t.kind) s.types)

-- ---- dimensions

module _ (s : Schema) where
  abbrev Dims : Names → Numbers → Table → Bool
  Dims = breaks s BadDimension

  dims_in : (kind : TypeKind) → in_kind Dims s.types kind ≡ false
  dims_in (Number prim length null low high) = refl
  dims_in (Enum prim values) = along_none (value_step Dims) (value_test Dims prim) (λ r v. refl) (set.empty, set.empty) values
  dims_in (Set prim bits) = along_none (bit_step Dims) (bit_test Dims prim) (λ r b. refl) (set.empty, set.empty) bits
  dims_in (Composite members) = along_none (member_step Dims s.types) (member_test Dims) (λ r m. refl) (set.empty, 0) members

  dims_block : (b : Block) → in_block Dims s.types b ≡ list_any (is_bad_dimension_of s.types) b.groups
  dims_block b =
      (λ i. along_none (field_step Dims s.types) (field_test Dims) (λ r f. refl) (set.empty, (b.since, 0)) b.fields i || (along_any (group_step Dims) (group_test Dims (parent_of b)) (is_bad_dimension_of s.types) (λ r g. dimension_is s.types g) (names_of_fields set.empty b.fields, b.since) b.groups i || along_none (data_step Dims) (data_test Dims (parent_of b)) (λ r d. refl) (names_of_heads Dims (names_of_fields set.empty b.fields) b.groups, b.since) b.vars i))
      ∙ or_false (list_any (is_bad_dimension_of s.types) b.groups)

  pub dims_are : list_any (occurs s BadDimension) (walk s) ≡ has_bad_dimension s
  dims_are =
      parts_are Dims (λ names ids least_since end f. refl) (λ names ids parent least_since g. refl) (λ names ids parent least_since d. refl) s false false false (list_any (λ b. list_any (is_bad_dimension_of s.types) b.groups) (blocks_of s.messages)) (along_none (type_step Dims) (type_test Dims) (λ r t. refl) set.empty s.types) (any_none (λ t. in_kind Dims s.types t.kind) (λ t. dims_in t.kind) s.types) (along_none (message_step Dims) (message_test Dims) (λ r m. refl) (set.empty, set.empty) s.messages) (any_same (in_block Dims s.types) (λ b. list_any (is_bad_dimension_of s.types) b.groups) dims_block (blocks_of s.messages))

-- ---- data

module _ (s : Schema) where
  abbrev Vars : Names → Numbers → Table → Bool
  Vars = breaks s BadData

  vars_in : (kind : TypeKind) → in_kind Vars s.types kind ≡ false
  vars_in (Number prim length null low high) = refl
  vars_in (Enum prim values) = along_none (value_step Vars) (value_test Vars prim) (λ r v. refl) (set.empty, set.empty) values
  vars_in (Set prim bits) = along_none (bit_step Vars) (bit_test Vars prim) (λ r b. refl) (set.empty, set.empty) bits
  vars_in (Composite members) = along_none (member_step Vars s.types) (member_test Vars) (λ r m. refl) (set.empty, 0) members

  vars_block : (b : Block) → in_block Vars s.types b ≡ list_any (λ d. not (is_dimension d.length || is_uint32 d.length)) b.vars
  vars_block b =
      λ i. along_none (field_step Vars s.types) (field_test Vars) (λ r f. refl) (set.empty, (b.since, 0)) b.fields i || (along_none (group_step Vars) (group_test Vars (parent_of b)) (λ r g. refl) (names_of_fields set.empty b.fields, b.since) b.groups i || along_any (data_step Vars) (data_test Vars (parent_of b)) (λ d. not (is_dimension d.length || is_uint32 d.length)) (λ r d. refl) (names_of_heads Vars (names_of_fields set.empty b.fields) b.groups, b.since) b.vars i)

  pub vars_are : list_any (occurs s BadData) (walk s) ≡ has_bad_data s
  vars_are =
      parts_are Vars (λ names ids least_since end f. refl) (λ names ids parent least_since g. refl) (λ names ids parent least_since d. refl) s false false false (list_any (λ b. list_any (λ d. not (is_dimension d.length || is_uint32 d.length)) b.vars) (blocks_of s.messages)) (along_none (type_step Vars) (type_test Vars) (λ r t. refl) set.empty s.types) (any_none (λ t. in_kind Vars s.types t.kind) (λ t. vars_in t.kind) s.types) (along_none (message_step Vars) (message_test Vars) (λ r m. refl) (set.empty, set.empty) s.messages) (any_same (in_block Vars s.types) (λ b. list_any (λ d. not (is_dimension d.length || is_uint32 d.length)) b.vars) vars_block (blocks_of s.messages))
