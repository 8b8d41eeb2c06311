use Rattle.std.proofs.Common.{◌∙◌, sym, arith}
use Rattle.std.proofs.lemmas.Result.{err_from_is_err_and}
use Rattle.sbe_decode.specs.Walks.{read_parts}
use Rattle.sbe_decode.proofs.Lists.{weight_at, groups_walked, groups_walk_fails, entries_walked, entries_walk_fails}
use Rattle.sbe_decode.proofs.skip.+skips.Goals as goal

pub skip_groups-skip_group-requires : goal.skip_groups-skip_group-requires
skip_groups-skip_group-requires t c =
    (omega (arith, c.decreases, weight_at c.args.plans.now c.loop-plan.plan-index c.plan-item.result c.loop-plan-test.true c.plan-item.is), tt)

pub skip_groups-returns-in_err-left : goal.skip_groups-returns-in_err-left
skip_groups-returns-in_err-left t c =
    let r = c.args.reading in
    let p = err_from_is_err_and c.from_residual.result c.from_residual.ensures.1 in
    rw (p.1, p.2) (sym c.loop-plan.invariant ∙ groups_walk_fails r.order r.version r.total c.args.plans.now c.loop-plan.plan-index c.plan-item.result c.loop-plan.left.now c.in_err-left.field-0.0 c.loop-plan-test.true c.plan-item.is c.in_err-left.ensures)

pub skip_groups-loop-plan-preserved : goal.skip_groups-loop-plan-preserved
skip_groups-loop-plan-preserved t c =
    let r = c.args.reading in
    groups_walked r.order r.version r.total c.args.plans.now c.loop-plan.plan-index c.plan-item.result c.loop-plan.left.now c.in_ok-left.left.now c.loop-plan-test.true c.plan-item.is c.in_ok-left.ensures ∙ c.loop-plan.invariant

pub skip_entries-returns-in_err-left : goal.skip_entries-returns-in_err-left
skip_entries-returns-in_err-left t c =
    let r = c.args.reading in
    let p = err_from_is_err_and c.from_residual.result c.from_residual.ensures.1 in
    rw (p.1, p.2) (sym c.loop.invariant ∙ entries_walk_fails (read_parts r.order r.version r.total c.args.dimension.size c.args.plan.now) c.args.dimension.count c.loop.counter c.loop.left.now c.in_err-left.field-0.0 c.loop-test.true c.in_err-left.ensures)

pub skip_entries-loop-preserved : goal.skip_entries-loop-preserved
skip_entries-loop-preserved t c =
    let r = c.args.reading in
    entries_walked (read_parts r.order r.version r.total c.args.dimension.size c.args.plan.now) c.args.dimension.count c.loop.counter c.loop.left.now c.in_ok-left.left.now c.loop-test.true c.in_ok-left.ensures ∙ c.loop.invariant
