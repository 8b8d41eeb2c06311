-- Sizes, offsets and block lengths in bytes (SBE 1.0, "Field offsets", "Composite data types", "Block length").
use Rattle.std.specs.Prelude.{ℕ, ◌+◌, ◌-◌, ◌*◌, ◌^◌, max, min, ℤ, pos, negsuc, Option, Some, None, unwrap_or, List, [], ◌∷◌}
use Rattle.std.specs.Option.{option_map}
use Rattle.sbe_prim.specs.declared.Primitive.{Primitive}
use Rattle.sbe_prim.specs.Primitives.{size_of}
use Rattle.sbe_schema.specs.declared.meaning.Meaning as meaning
use Rattle.sbe_schema.specs.declared.meaning.Meaning.TheVariants as means
use Rattle.schema_types.specs.declared.types.TypeDef.{TypeDef}
use Rattle.schema_types.specs.declared.types.TypeKind.{TypeKind}
use Rattle.schema_types.specs.declared.types.TypeKind.TheVariants.{Number, Enum, Set, Composite}
use Rattle.schema_types.specs.declared.types.MemberDef.{MemberDef}
use Rattle.schema_types.specs.declared.types.Presence.{Presence}
use Rattle.schema_types.specs.declared.types.Presence.TheVariants.{Required, Optional, Constant}
use Rattle.schema_types.specs.declared.messages.FieldDef.{FieldDef}
use Rattle.sbe_prim.specs.Names.{primitive_named}
use Rattle.sbe_schema.specs.Meanings.{type_named, meaning_of}

-- a sum that ends at the greatest number of 128 bits, which lies above every stated offset and every limit
abbrev pub plus : ℕ → ℕ → ℕ
plus a b = min (a + b) (2 ^ 128 - 1)

-- the bytes of a number, an enum or a set; an array has as many elements as its length, and a length below 2 is the primitive itself
abbrev pub simple_size : meaning.Meaning → ℕ
simple_size means.Unknown = 0
simple_size (means.Number prim length) = size_of prim * max length 1
simple_size (means.Code prim) = size_of prim
simple_size means.Composite = 0

-- a constant takes no bytes
abbrev pub taken : Presence → ℕ → ℕ
taken Required size = size
taken Optional size = size
taken Constant size = 0

-- where something stands: at the stated offset, or at the end of what stands before it. A negative offset counts as 0; the check refuses it
abbrev pub offset_of : ℕ → Option ℤ → ℕ
offset_of end None = end
offset_of end (Some (pos n)) = n
offset_of end (Some (negsuc n)) = 0

-- where a member ends, whose predecessor ends there
abbrev pub member_end : List TypeDef → ℕ → MemberDef → ℕ
member_end types end m = plus (offset_of end m.offset) (taken m.presence (simple_size (meaning_of types m.type_name)))

abbrev pub members_end : List TypeDef → ℕ → List MemberDef → ℕ
members_end types end [] = end
members_end types end (m ∷ ms) = members_end types (member_end types end m) ms

-- a composite ends with its last member
abbrev pub size_of_kind : List TypeDef → TypeKind → ℕ
size_of_kind types (Composite members) = members_end types 0 members
size_of_kind types (Number prim length null low high) = simple_size (means.Number prim length)
size_of_kind types (Enum prim values) = size_of prim
size_of_kind types (Set prim bits) = size_of prim

abbrev pub size_by : List TypeDef → Option Primitive → Option TypeKind → ℕ
size_by types (Some p) kind = size_of p
size_by types None kind = unwrap_or (option_map (size_of_kind types) kind) 0

abbrev pub type_size : List TypeDef → List ℕ → ℕ
type_size types name = size_by types (primitive_named name) (type_named name types)

-- where a field ends, whose predecessor ends there
abbrev pub field_end : List TypeDef → ℕ → FieldDef → ℕ
field_end types end f = plus (offset_of end f.offset) (taken f.presence (type_size types f.type_name))

abbrev pub fields_end : List TypeDef → ℕ → List FieldDef → ℕ
fields_end types end [] = end
fields_end types end (f ∷ fs) = fields_end types (field_end types end f) fs

-- the length of a block: the stated one, or the end of its last field
abbrev pub block_length_of : List TypeDef → Option ℤ → List FieldDef → ℕ
block_length_of types stated fields = offset_of (fields_end types 0 fields) stated
