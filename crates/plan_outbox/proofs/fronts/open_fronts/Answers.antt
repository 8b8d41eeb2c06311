use Rattle.std.proofs.Common.{◌≡◌, length, ◌∙◌, arith}
use Rattle.plan_outbox.proofs.Agreeing.{fronts_new}
use Rattle.plan_outbox.proofs.fronts.open_fronts.Goals as goal

pub returns : goal.returns
returns c =
    let end : c.loop-plan._plan-index ≡ length c.args.plans.now = omega (arith, c.loop-plan-test.false, c.loop-plan.auto._plan-index-end) in
    let inv = c.loop-plan.invariant in
    record { fronts = fronts_new c.args.plans.now c.loop-plan.fronts.items (inv.many ∙ end) (λ i d lt. inv.none i d (omega (arith, lt, end))) (λ i d lt. inv.all i d (omega (arith, lt, end))) }
