use Rattle.std.proofs.Common.{ap, ◌∙◌}
use Rattle.order_gate.proofs.Lines.{pops}
use Rattle.order_gate.proofs.line.next.Goals as goal

pub try_pop_as-requires-clause-rule : goal.try_pop_as-requires-clause-rule
try_pop_as-requires-clause-rule g c = pops _ _ (ap (λ v. v.pops) c.loop.invariant.1 ∙ c.requires.pops)
