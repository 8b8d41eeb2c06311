use Rattle.std.proofs.Common.{◌+◌, ◌*◌}
use Rattle.schema_types.specs.Groups.{weight_of}
use Rattle.schema_types.specs.Views.{groups_of}
use Rattle.sbe_skew.proofs.extending.+groups.Given as goal

abbrev pub decreases-other_groups : goal.decreases-other_groups
decreases-other_groups l = 2 * weight_of (groups_of l.groups.now) + 1

abbrev pub decreases-other_parts_of_group : goal.decreases-other_parts_of_group
decreases-other_parts_of_group l = 2 * weight_of l.g.now.groups + 2
