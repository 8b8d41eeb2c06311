-- How deep the groups of a schema nest.
use Rattle.std.specs.Prelude.{ℕ, ◌+◌, max, List, [], ◌∷◌}
use Rattle.schema_types.specs.Groups.{GroupTree, no_groups, group}
use Rattle.schema_types.specs.declared.messages.MessageDef.{MessageDef}
use Rattle.schema_types.specs.declared.schema.Schema.{Schema}

-- no group is no level, and a group stands one level above the groups of its entries
abbrev pub levels_of_groups : GroupTree → ℕ
levels_of_groups no_groups = 0
levels_of_groups (group g inner rest) = max (1 + levels_of_groups inner) (levels_of_groups rest)

abbrev pub levels_of_messages : List MessageDef → ℕ
levels_of_messages [] = 0
levels_of_messages (m ∷ ms) = max (levels_of_groups m.groups) (levels_of_messages ms)

abbrev pub levels_of_schema : Schema → ℕ
levels_of_schema schema = levels_of_messages schema.messages
