-- Where members and fields end, as sums of whole numbers (SBE 1.0, "Field offsets", "Composite data types", "Block length").
use Rattle.std.specs.Prelude.{ℕ, ◌+◌, ◌-◌, ◌^◌, min, ℤ, pos, int_lt, Bool, false, Option, Some, None, unwrap_or, List, [], ◌∷◌}
use Rattle.std.specs.Option.{option_map}
use Rattle.sbe_prim.specs.declared.Primitive.{Primitive}
use Rattle.sbe_prim.specs.Primitives.{size_of}
use Rattle.sbe_schema.specs.declared.meaning.Meaning.TheVariants as means
use Rattle.schema_types.specs.declared.types.TypeDef.{TypeDef}
use Rattle.schema_types.specs.declared.types.TypeKind.{TypeKind}
use Rattle.schema_types.specs.declared.types.TypeKind.TheVariants.{Number, Enum, Set, Composite}
use Rattle.schema_types.specs.declared.types.MemberDef.{MemberDef}
use Rattle.schema_types.specs.declared.messages.FieldDef.{FieldDef}
use Rattle.sbe_prim.specs.Names.{primitive_named}
use Rattle.sbe_schema.specs.Meanings.{type_named, meaning_of}
use Rattle.sbe_schema.specs.Offsets.{simple_size, taken, offset_of}

-- the end of a member behind one that ends there, and of the last of some members
abbrev pub end_of_member : List TypeDef → ℕ → MemberDef → ℕ
end_of_member types end m = offset_of end m.offset + taken m.presence (simple_size (meaning_of types m.type_name))

abbrev pub end_of_members : List TypeDef → ℕ → List MemberDef → ℕ
end_of_members types end [] = end
end_of_members types end (m ∷ ms) = end_of_members types (end_of_member types end m) ms

-- the bytes of a type: a composite's are those up to the end of its last member
abbrev pub bytes_of_kind : List TypeDef → TypeKind → ℕ
bytes_of_kind types (Composite members) = end_of_members types 0 members
bytes_of_kind types (Number prim length null low high) = simple_size (means.Number prim length)
bytes_of_kind types (Enum prim values) = size_of prim
bytes_of_kind types (Set prim bits) = size_of prim

abbrev pub bytes_by : List TypeDef → Option Primitive → Option TypeKind → ℕ
bytes_by types (Some p) kind = size_of p
bytes_by types None kind = unwrap_or (option_map (bytes_of_kind types) kind) 0

abbrev pub bytes_of_type : List TypeDef → List ℕ → ℕ
bytes_of_type types name = bytes_by types (primitive_named name) (type_named name types)

-- the end of a field behind one that ends there, and of the last of some fields
abbrev pub end_of_field : List TypeDef → ℕ → FieldDef → ℕ
end_of_field types end f = offset_of end f.offset + taken f.presence (bytes_of_type types f.type_name)

abbrev pub end_of_fields : List TypeDef → ℕ → List FieldDef → ℕ
end_of_fields types end [] = end
end_of_fields types end (f ∷ fs) = end_of_fields types (end_of_field types end f) fs

-- the bytes of a block: as many as are stated, or those up to the end of its last field
abbrev pub bytes_of_block : List TypeDef → Option ℤ → List FieldDef → ℕ
bytes_of_block types stated fields = offset_of (end_of_fields types 0 fields) stated

-- A number is stated, and lies below an end. What is stated is a number of 128 bits, and so below the greatest of them:
-- an end past that one is above whatever is stated.
abbrev pub stands_below : Option ℤ → ℕ → Bool
stands_below None end = false
stands_below (Some z) end = int_lt z (pos (min end (2 ^ 128 - 1)))
