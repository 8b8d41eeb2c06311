use Rattle.std.proofs.Common.{arith}
use Rattle.std.proofs.lemmas.Result.{err_from_is_err_and}
use Rattle.sbe_decode.specs.Walks.{read_parts}
use Rattle.sbe_decode.proofs.Lists.{weight_at, groups_step, groups_fail, groups_end, entries_step, entries_fail, entries_end}
use Rattle.sbe_decode.proofs.blocks.+blocks.Goals as goal

pub read_groups-read_group-requires : goal.read_groups-read_group-requires
read_groups-read_group-requires t c =
    (omega (arith, c.decreases, weight_at c.args.plans.now c.loop-plan.plan-index c.plan-item.result c.loop-plan-test.true c.plan-item.is), tt)

pub read_groups-returns-in_err-group : goal.read_groups-returns-in_err-group
read_groups-returns-in_err-group t c =
    let r = c.args.reading in
    let p = err_from_is_err_and c.from_residual-in_err-group.result c.from_residual-in_err-group.ensures.1 in
    rw (p.1, p.2) (groups_fail r.order r.version r.total c.loop-plan.groups.items c.args.plans.now c.loop-plan.plan-index c.plan-item.result c.loop-plan.left.now c.in_err-group.field-0.0 _ c.loop-plan-test.true c.plan-item.is c.in_err-group.ensures c.loop-plan.invariant)

pub read_groups-loop-plan-preserved : goal.read_groups-loop-plan-preserved
read_groups-loop-plan-preserved t c =
    let r = c.args.reading in
    rw c.in_ok-push.ensures.items (groups_step r.order r.version r.total c.loop-plan.groups.items c.in_ok-group.group c.args.plans.now c.loop-plan.plan-index c.plan-item.result c.loop-plan.left.now c.in_ok-group.rest.now _ c.loop-plan-test.true c.plan-item.is c.in_ok-group.ensures c.loop-plan.invariant)

pub read_groups-returns : goal.read_groups-returns
read_groups-returns t c =
    let r = c.args.reading in
    groups_end r.order r.version r.total c.loop-plan.groups.items c.args.plans.now c.loop-plan.plan-index c.loop-plan.left.now _ c.loop-plan-test.false c.loop-plan.invariant

pub read_entries-returns-in_err-entry : goal.read_entries-returns-in_err-entry
read_entries-returns-in_err-entry t c =
    let r = c.args.reading in
    let p = err_from_is_err_and c.from_residual-in_err-entry.result c.from_residual-in_err-entry.ensures.1 in
    rw (p.1, p.2) (entries_fail (read_parts r.order r.version r.total c.args.dimension.size c.args.plan.now) c.loop.entries.items c.args.dimension.count c.loop.counter c.loop.left.now c.in_err-entry.field-0.0 _ c.loop-test.true c.in_err-entry.ensures c.loop.invariant)

pub read_entries-loop-preserved : goal.read_entries-loop-preserved
read_entries-loop-preserved t c =
    let r = c.args.reading in
    rw c.in_ok-push.ensures.items (entries_step (read_parts r.order r.version r.total c.args.dimension.size c.args.plan.now) c.loop.entries.items c.in_ok-entry.entry c.args.dimension.count c.loop.counter c.loop.left.now c.in_ok-entry.rest.now _ c.loop-test.true c.in_ok-entry.ensures c.loop.invariant)

pub read_entries-returns : goal.read_entries-returns
read_entries-returns t c =
    let r = c.args.reading in
    entries_end (read_parts r.order r.version r.total c.args.dimension.size c.args.plan.now) c.loop.entries.items c.args.dimension.count c.loop.counter c.loop.left.now _ c.loop-test.false c.loop.invariant
