use Rattle.std.proofs.Common.{ap}
use Rattle.order_gate.proofs.Lines.{pushes}
use Rattle.order_gate.proofs.line.deal.Goals as goal

pub try_push_as-requires-clause-rule : goal.try_push_as-requires-clause-rule
try_push_as-requires-clause-rule g c = pushes _ _ _ _ (ap (λ v. v.pushes) c.loop.invariant.1)
