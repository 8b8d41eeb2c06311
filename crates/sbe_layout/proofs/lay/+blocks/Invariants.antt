use Rattle.std.proofs.Common.{◌≡◌, ◌+◌, ◌*◌, drop}
use Rattle.schema_types.specs.Groups.{weight_of}
use Rattle.schema_types.specs.Views.{groups_of}
use Rattle.sbe_layout.specs.Views.{plans_of}
use Rattle.sbe_layout.specs.Plans.{groups_plan}
use Rattle.sbe_layout.proofs.Rows.{append_plans}
use Rattle.sbe_layout.proofs.lay.+blocks.Given as goal

abbrev pub decreases-block_plan : goal.decreases-block_plan
decreases-block_plan l = 3 * weight_of (groups_of l.groups.now) + 2

abbrev pub decreases-groups_plan : goal.decreases-groups_plan
decreases-groups_plan l = 3 * weight_of (groups_of l.groups.now) + 1

abbrev pub decreases-group_plan : goal.decreases-group_plan
decreases-group_plan l = 3 * weight_of l.g.now.groups + 3

-- what is made, followed by what is left, is all
abbrev pub invariant-groups_plan-loop-g : goal.invariant-groups_plan-loop-g
invariant-groups_plan-loop-g l =
    append_plans (plans_of l.plans.items) (groups_plan l.types.index.schema.now.types (groups_of (drop l.g-index l.groups))) ≡ groups_plan l.types.index.schema.now.types (groups_of l.groups)
