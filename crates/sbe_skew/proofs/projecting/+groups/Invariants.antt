use Rattle.std.proofs.Common.{◌+◌, ◌*◌}
use Rattle.schema_types.specs.Groups.{weight_of}
use Rattle.schema_types.specs.Views.{groups_of}
use Rattle.sbe_skew.proofs.projecting.+groups.Given as goal

abbrev pub decreases-add_groups : goal.decreases-add_groups
decreases-add_groups l = 3 * weight_of (groups_of l.groups.now) + 1

abbrev pub decreases-project_groups : goal.decreases-project_groups
decreases-project_groups l = 3 * weight_of l.groups.now + 2

abbrev pub decreases-project_group : goal.decreases-project_group
decreases-project_group l = 3 * weight_of l.g.now.groups + 3
