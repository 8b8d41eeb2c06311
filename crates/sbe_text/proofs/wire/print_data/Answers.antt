use Rattle.sbe_text.proofs.Walked.{data_step}
use Rattle.sbe_text.proofs.wire.print_data.Goals as goal

pub loop-plan-preserved : goal.loop-plan-preserved
loop-plan-preserved c =
    let r = c.args.reading in
    data_step r.order r.version r.total c.args.before.now c.loop-plan.lines.items c.print_datum.new.lines.items c.args.plans.now c.loop-plan.plan-index c.plan-item.result c.loop-plan.left.now c.in_ok-left.left.now _ c.loop-plan-test.true c.plan-item.is c.in_ok-left.ensures c.loop-plan.invariant
