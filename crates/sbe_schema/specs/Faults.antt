-- The eleven faults of a schema, each said of its own lists of types, messages and elements (SBE 1.0, "Message schema", and this project's profile).
use Rattle.std.specs.Prelude.{ℕ, zero, suc, ◌+◌, ◌*◌, ℤ, pos, int_lt, nat_lt, nat_eq, Bool, false, not, ◌||◌, ◌&&◌, is_some, List, [], ◌∷◌, length, map}
use Rattle.std.specs.List.{list_any}
use Rattle.std.specs.Ordering.{int_eq}
use Rattle.sbe_prim.specs.Primitives.{size_of, least_of, greatest_of, lies_within}
use Rattle.schema_types.specs.declared.schema.Schema.{Schema}
use Rattle.sbe_schema.specs.declared.fault.SchemaKind.{SchemaKind}
use Rattle.sbe_schema.specs.declared.fault.SchemaKind.TheVariants.{DuplicateName, DuplicateId, UnknownType, BadOffset, ShortLength, BadEnum, BadSet, BadDimension, BadData, IllegalExtension, OverLimit, Memory}
use Rattle.schema_types.specs.declared.types.TypeDef.{TypeDef}
use Rattle.schema_types.specs.declared.types.TypeKind.{TypeKind}
use Rattle.schema_types.specs.declared.types.TypeKind.TheVariants.{Number, Enum, Set, Composite}
use Rattle.schema_types.specs.declared.types.MemberDef.{MemberDef}
use Rattle.schema_types.specs.declared.messages.MessageDef.{MessageDef}
use Rattle.schema_types.specs.declared.messages.FieldDef.{FieldDef}
use Rattle.schema_types.specs.declared.messages.DataDef.{DataDef}
use Rattle.schema_types.specs.Groups.{GroupHead}
use Rattle.sbe_prim.specs.Names.{primitive_named}
use Rattle.sbe_schema.specs.Names.{same_name}
use Rattle.sbe_schema.specs.Meanings.{meaning_of}
use Rattle.sbe_schema.specs.Identity.{is_unknown, is_composite}
use Rattle.sbe_schema.specs.Kinds.{is_bad_enum_kind, is_bad_set_kind, is_dimension, is_uint32}
use Rattle.sbe_schema.specs.Limits.{is_above, is_large_kind, is_bad_value}
use Rattle.sbe_schema.specs.Sums.{stands_below, end_of_members, end_of_field, end_of_fields, bytes_of_block}
use Rattle.sbe_schema.specs.Blocks.{Block, blocks_of, blocks_of_message, names_in_block, ids_in_message}

module _ {A : Type 0} where
  -- some element stands in this relation to one before it
  abbrev pub any_pair : (A → A → Bool) → List A → Bool
  any_pair relation [] = false
  any_pair relation (x ∷ xs) = list_any (λ later. relation later x) xs || any_pair relation xs

  -- each element behind those before it
  abbrev pub behind_one : A → List A × A → List A × A
  behind_one x p = (x ∷ p.0, p.1)

  abbrev pub with_earlier : List A → List (List A × A)
  with_earlier [] = []
  with_earlier (x ∷ xs) = ([], x) ∷ map (behind_one x) (with_earlier xs)

-- ---- 1. names: two of one list or block, or a primitive's and a type's

abbrev pub names_in : TypeKind → List (List ℕ)
names_in (Number prim length null low high) = []
names_in (Enum prim values) = map (λ v. v.name) values
names_in (Set prim bits) = map (λ b. b.name) bits
names_in (Composite members) = map (λ m. m.name) members

abbrev pub has_duplicate_name : Schema → Bool
has_duplicate_name s =
    (any_pair same_name (map (λ t. t.name) s.types) || list_any (λ t. is_some (primitive_named t.name)) s.types)
    || (list_any (λ t. any_pair same_name (names_in t.kind)) s.types
    || (any_pair same_name (map (λ m. m.name) s.messages) || list_any (λ b. any_pair same_name (names_in_block b)) (blocks_of s.messages)))

-- ---- 2. ids: two of the messages, or of the elements of one message

abbrev pub has_duplicate_id : Schema → Bool
has_duplicate_id s =
    any_pair nat_eq (map (λ m. m.id) s.messages) || list_any (λ m. any_pair nat_eq (ids_in_message m)) s.messages

-- ---- 3. types: a member or field whose type is none, or a member that is a composite

abbrev pub members_in : TypeKind → List MemberDef
members_in (Number prim length null low high) = []
members_in (Enum prim values) = []
members_in (Set prim bits) = []
members_in (Composite members) = members

abbrev pub has_unknown_type : Schema → Bool
has_unknown_type s =
    list_any (λ t. list_any (λ m. is_unknown (meaning_of s.types m.type_name) || is_composite (meaning_of s.types m.type_name)) (members_in t.kind)) s.types
    || list_any (λ b. list_any (λ f. is_unknown (meaning_of s.types f.type_name)) b.fields) (blocks_of s.messages)

-- ---- 4. offsets: a stated one below the end of what stands before, or a field that ends past 16,384

abbrev pub is_low_member : List TypeDef → List MemberDef × MemberDef → Bool
is_low_member types p = stands_below p.1.offset (end_of_members types 0 p.0)

abbrev pub is_misplaced_field : List TypeDef → List FieldDef × FieldDef → Bool
is_misplaced_field types p =
    stands_below p.1.offset (end_of_fields types 0 p.0) || nat_lt 16384 (end_of_field types (end_of_fields types 0 p.0) p.1)

abbrev pub has_bad_offset : Schema → Bool
has_bad_offset s =
    list_any (λ t. list_any (is_low_member s.types) (with_earlier (members_in t.kind))) s.types
    || list_any (λ b. list_any (is_misplaced_field s.types) (with_earlier b.fields)) (blocks_of s.messages)

-- ---- 5. block lengths: a stated one below the end of the fields

abbrev pub has_short_length : Schema → Bool
has_short_length s =
    list_any (λ m. stands_below m.block_length (end_of_fields s.types 0 m.fields)) s.messages
    || list_any (λ b. list_any (λ g. stands_below g.block_length (end_of_fields s.types 0 g.fields)) b.groups) (blocks_of s.messages)

-- ---- 6. enums: another primitive than char, uint8 and uint16, no value, a value twice, or one that the primitive's bytes do not hold

abbrev pub has_bad_values : TypeKind → Bool
has_bad_values (Number prim length null low high) = false
has_bad_values (Enum prim values) =
    any_pair int_eq (map (λ v. v.value) values) || list_any (λ v. not (lies_within (least_of prim) (greatest_of prim) v.value)) values
has_bad_values (Set prim bits) = false
has_bad_values (Composite members) = false

abbrev pub has_bad_enum : Schema → Bool
has_bad_enum s = list_any (λ t. is_bad_enum_kind t.kind || has_bad_values t.kind) s.types

-- ---- 7. sets: a primitive that is not unsigned, a bit twice, or one past the width

abbrev pub has_bad_bits : TypeKind → Bool
has_bad_bits (Number prim length null low high) = false
has_bad_bits (Enum prim values) = false
has_bad_bits (Set prim bits) =
    any_pair nat_eq (map (λ b. b.bit) bits) || list_any (λ b. not (nat_lt b.bit (8 * size_of prim))) bits
has_bad_bits (Composite members) = false

abbrev pub has_bad_set : Schema → Bool
has_bad_set s = list_any (λ t. is_bad_set_kind t.kind || has_bad_bits t.kind) s.types

-- ---- 8. dimensions: other than two of uint8 and uint16, or one that cannot hold the block length

abbrev pub is_bad_dimension_of : List TypeDef → GroupHead → Bool
is_bad_dimension_of types g =
    not (is_dimension g.block_prim && is_dimension g.count_prim) || int_lt (greatest_of g.block_prim) (pos (bytes_of_block types g.block_length g.fields))

abbrev pub has_bad_dimension : Schema → Bool
has_bad_dimension s = list_any (λ b. list_any (is_bad_dimension_of s.types) b.groups) (blocks_of s.messages)

-- ---- 9. data: a length other than uint8, uint16 and uint32

abbrev pub has_bad_data : Schema → Bool
has_bad_data s = list_any (λ b. list_any (λ d. not (is_dimension d.length || is_uint32 d.length)) b.vars) (blocks_of s.messages)

-- ---- 10. since: above the schema's version, below what holds it or an earlier sibling of its kind; a root group behind older root data;
-- an inner group or data not with its group

abbrev pub is_outside : ℕ → ℤ → ℤ → Bool
is_outside version least since = int_lt (pos version) since || int_lt since least

abbrev pub is_new_inside : ℕ → ℤ → ℤ → Bool
is_new_inside zero since other = false
is_new_inside (suc level) since other = not (int_eq other since)

abbrev pub is_behind_older : ℕ → List DataDef → ℤ → Bool
is_behind_older zero vars since = list_any (λ d. int_lt d.since since) vars
is_behind_older (suc level) vars since = false

abbrev pub is_badly_extended : ℕ → Block → Bool
is_badly_extended version b =
    (list_any (λ f. is_outside version b.since f.since) b.fields || any_pair int_lt (map (λ f. f.since) b.fields))
    || ((list_any (λ g. is_outside version b.since g.since || (is_behind_older b.level b.vars g.since || is_new_inside b.level b.since g.since)) b.groups
    || any_pair int_lt (map (λ g. g.since) b.groups))
    || (list_any (λ d. is_outside version b.since d.since || is_new_inside b.level b.since d.since) b.vars || any_pair int_lt (map (λ d. d.since) b.vars)))

abbrev pub has_illegal_extension : Schema → Bool
has_illegal_extension s =
    list_any (λ m. int_lt (pos s.version) m.since) s.messages || list_any (is_badly_extended s.version) (blocks_of s.messages)

-- ---- 11. limits of this project's profile, and values that their types do not hold

abbrev pub bytes_of_blocks : List TypeDef → List Block → ℕ
bytes_of_blocks types [] = 0
bytes_of_blocks types (b ∷ bs) = bytes_of_block types b.stated b.fields + bytes_of_blocks types bs

abbrev pub is_too_large : List TypeDef → MessageDef → Bool
is_too_large types m =
    is_above m.block_length 16384 || (nat_lt 1024 (length (ids_in_message m)) || nat_lt 16384 (bytes_of_blocks types (blocks_of_message m)))

abbrev pub is_over_limit_in : List TypeDef → Block → Bool
is_over_limit_in types b =
    list_any (λ f. is_bad_value (meaning_of types f.type_name) f.presence f.value) b.fields
    || list_any (λ g. is_above g.block_length 16384 || nat_lt 3 b.level) b.groups

abbrev pub is_past_limits : Schema → Bool
is_past_limits s =
    (nat_lt 1024 (length s.types) || nat_lt 256 (length s.messages))
    || (list_any (λ t. is_large_kind t.kind || list_any (λ m. is_bad_value (meaning_of s.types m.type_name) m.presence m.value) (members_in t.kind)) s.types
    || (list_any (is_too_large s.types) s.messages || list_any (is_over_limit_in s.types) (blocks_of s.messages)))

-- ---- each of them

abbrev pub has_fault : Schema → SchemaKind → Bool
has_fault s DuplicateName = has_duplicate_name s
has_fault s DuplicateId = has_duplicate_id s
has_fault s UnknownType = has_unknown_type s
has_fault s BadOffset = has_bad_offset s
has_fault s ShortLength = has_short_length s
has_fault s BadEnum = has_bad_enum s
has_fault s BadSet = has_bad_set s
has_fault s BadDimension = has_bad_dimension s
has_fault s BadData = has_bad_data s
has_fault s IllegalExtension = has_illegal_extension s
has_fault s OverLimit = is_past_limits s
has_fault s Memory = false
