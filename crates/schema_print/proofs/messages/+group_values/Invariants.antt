use Rattle.std.proofs.Common.{◌≡◌, ◌++◌, drop, map}
use Rattle.toml.specs.View.{view}
use Rattle.schema_types.specs.Groups.{weight_of}
use Rattle.schema_types.specs.Views.{groups_of}
use Rattle.schema_print.specs.Written.{groups_list}
use Rattle.schema_print.proofs.messages.+group_values.Given as goal

abbrev pub decreases-group_values : goal.decreases-group_values
decreases-group_values l = weight_of (groups_of l.groups.now)

-- those that are written, and those that are left, are all
abbrev pub invariant-loop-group : goal.invariant-loop-group
invariant-loop-group l = map view l.list.items ++ groups_list (groups_of (drop l.group-index l.groups)) ≡ groups_list (groups_of l.groups)
