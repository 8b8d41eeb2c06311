use Rattle.sbe_decode.proofs.Lists.{data_step}
use Rattle.sbe_decode.proofs.data.read_data.Goals as goal

pub loop-plan-preserved : goal.loop-plan-preserved
loop-plan-preserved c =
    rw c.in_ok-push.ensures.items (data_step c.args.reading.order c.args.reading.version c.args.reading.total c.loop-plan.«data».items c.in_ok-datum.datum c.args.plans.now c.loop-plan.plan-index c.plan-item.result c.loop-plan.left.now c.in_ok-datum.rest.now _ c.loop-plan-test.true c.plan-item.is c.in_ok-datum.ensures c.loop-plan.invariant)
