-- Offsets and block lengths that are refused (SBE 1.0, "Field offsets", "Block length").
use Rattle.std.specs.Prelude.{ℕ, ℤ, pos, int_lt, nat_lt, Bool, false, ◌||◌, Option, Some, None, List}
use Rattle.schema_types.specs.declared.types.TypeDef.{TypeDef}
use Rattle.sbe_schema.specs.Offsets.{field_end, fields_end}
use Rattle.sbe_schema.specs.Places.{Table, member_table, message_table, field_table, group_table}

-- a number is stated, and lies below an end
abbrev pub is_below : Option ℤ → ℕ → Bool
is_below None end = false
is_below (Some z) end = int_lt z (pos end)

-- an offset below the end of what stands before, or a field that ends past 16,384
abbrev pub is_bad_offset : List TypeDef → Table → Bool
is_bad_offset types (member_table end m) = is_below m.offset end
is_bad_offset types (field_table least_since end f) = is_below f.offset end || nat_lt 16384 (field_end types end f)
is_bad_offset types _ = false

-- a block length below the end of the block's fields
abbrev pub is_short_length : List TypeDef → Table → Bool
is_short_length types (message_table m) = is_below m.block_length (fields_end types 0 m.fields)
is_short_length types (group_table parent least_since g) = is_below g.block_length (fields_end types 0 g.fields)
is_short_length types _ = false
