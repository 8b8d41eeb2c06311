-- Extensions that an older reader could not skip (SBE 1.0, "Schema extension mechanism").
use Rattle.std.specs.Prelude.{ℕ, ℤ, pos, int_lt, nat_lt, Bool, false, not, ◌||◌, ◌&&◌, Option, Some, None}
use Rattle.std.specs.Ordering.{int_eq}
use Rattle.sbe_schema.specs.declared.parent.Parent.{Parent}
use Rattle.sbe_schema.specs.Places.{Table, message_table, field_table, group_table, data_table}

abbrev pub is_lower : Option ℤ → ℤ → Bool
is_lower None since = false
is_lower (Some lowest) since = int_lt lowest since

-- above the schema's version, or below what holds it or an earlier sibling of its kind
abbrev pub is_out_of_turn : ℕ → ℤ → ℤ → Bool
is_out_of_turn version least_since since = int_lt (pos version) since || int_lt since least_since

-- an element of an entry that is no field came with its group
abbrev pub is_not_with_group : Parent → ℤ → Bool
is_not_with_group parent since = nat_lt 0 parent.depth && not (int_eq since parent.since)

abbrev pub is_illegal_extension : ℕ → Table → Bool
is_illegal_extension version (message_table m) = int_lt (pos version) m.since
is_illegal_extension version (field_table least_since end f) = is_out_of_turn version least_since f.since
is_illegal_extension version (group_table parent least_since g) =
    is_out_of_turn version least_since g.since || (is_lower parent.lowest g.since || is_not_with_group parent g.since)
is_illegal_extension version (data_table parent least_since d) = is_out_of_turn version least_since d.since || is_not_with_group parent d.since
is_illegal_extension version _ = false
