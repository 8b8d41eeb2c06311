-- Names, ids and types that have to differ (SBE 1.0, "Message schema", names and ids).
use Rattle.std.specs.Prelude.{pos, Bool, true, false, ◌||◌, is_some, List}
use Rattle.sbe_schema.specs.declared.meaning.Meaning as meaning
use Rattle.sbe_schema.specs.declared.meaning.Meaning.TheVariants as means
use Rattle.schema_types.specs.declared.types.TypeDef.{TypeDef}
use Rattle.std.specs.FinSet as set
use Rattle.sbe_schema.specs.Names.{Names, Numbers}
use Rattle.sbe_prim.specs.Names.{primitive_named}
use Rattle.sbe_schema.specs.Meanings.{meaning_of}
use Rattle.sbe_schema.specs.Places.{Table, whole, type_table, value_table, bit_table, member_table, message_table, field_table, group_table, data_table}

-- the name stands before in the same list or block, or is a primitive's and a type's
abbrev pub is_duplicate_name : Names → Table → Bool
is_duplicate_name names whole = false
is_duplicate_name names (type_table t) = set.contains names t.name || is_some (primitive_named t.name)
is_duplicate_name names (value_table prim v) = set.contains names v.name
is_duplicate_name names (bit_table prim b) = set.contains names b.name
is_duplicate_name names (member_table end m) = set.contains names m.name
is_duplicate_name names (message_table m) = set.contains names m.name
is_duplicate_name names (field_table least_since end f) = set.contains names f.name
is_duplicate_name names (group_table parent least_since g) = set.contains names g.name
is_duplicate_name names (data_table parent least_since d) = set.contains names d.name

-- the id stands before among the messages, or among the elements of the message
abbrev pub is_duplicate_id : Numbers → Table → Bool
is_duplicate_id ids whole = false
is_duplicate_id ids (type_table t) = false
is_duplicate_id ids (value_table prim v) = false
is_duplicate_id ids (bit_table prim b) = false
is_duplicate_id ids (member_table end m) = false
is_duplicate_id ids (message_table m) = set.contains ids (pos m.id)
is_duplicate_id ids (field_table least_since end f) = set.contains ids (pos f.id)
is_duplicate_id ids (group_table parent least_since g) = set.contains ids (pos g.id)
is_duplicate_id ids (data_table parent least_since d) = set.contains ids (pos d.id)

abbrev pub is_unknown : meaning.Meaning → Bool
is_unknown means.Unknown = true
is_unknown (means.Number prim length) = false
is_unknown (means.Code prim) = false
is_unknown means.Composite = false

abbrev pub is_composite : meaning.Meaning → Bool
is_composite means.Unknown = false
is_composite (means.Number prim length) = false
is_composite (means.Code prim) = false
is_composite means.Composite = true

-- a name that is neither a primitive's nor a type's, or a member that is a composite
abbrev pub is_unknown_type : List TypeDef → Table → Bool
is_unknown_type types (member_table end m) = is_unknown (meaning_of types m.type_name) || is_composite (meaning_of types m.type_name)
is_unknown_type types (field_table least_since end f) = is_unknown (meaning_of types f.type_name)
is_unknown_type types _ = false
