use Rattle.std.proofs.Common.{◌+◌, ◌∙◌, ap, drop, arith}
use Rattle.schema_types.specs.Views.{groups_of}
use Rattle.sbe_layout.specs.Views.{plans_of}
use Rattle.sbe_layout.specs.Plans.{groups_plan}
use Rattle.sbe_layout.proofs.Rows.{append_plans, plans_step, plans_end, weight_at}
use Rattle.sbe_layout.proofs.lay.+blocks.Goals as goal

pub groups_plan-group_plan-requires : goal.groups_plan-group_plan-requires
groups_plan-group_plan-requires t c =
    (omega (arith, c.decreases, weight_at c.args.groups.now c.loop-g.g-index c.g-item.result c.loop-g-test.true c.g-item.is), c.requires)

pub groups_plan-loop-g-preserved : goal.groups_plan-loop-g-preserved
groups_plan-loop-g-preserved t c =
    let types = c.args.types.now.index.schema.now.types in
    let made = c.in_ok-group_plan.ensures in
    ap (λ xs. append_plans (plans_of xs) (groups_plan types (groups_of (drop (c.loop-g.g-index + 1) c.args.groups.now)))) c.in_ok-push.ensures.items
    ∙ plans_step types c.loop-g.plans.items c.in_ok-group_plan.field-0 c.args.groups.now c.loop-g.g-index c.g-item.result _ c.loop-g-test.true c.g-item.is made.head made.groups c.loop-g.invariant

pub groups_plan-returns : goal.groups_plan-returns
groups_plan-returns t c =
    plans_end c.args.types.now.index.schema.now.types c.loop-g.plans.items c.args.groups.now c.loop-g.g-index _ c.loop-g-test.false c.loop-g.invariant
