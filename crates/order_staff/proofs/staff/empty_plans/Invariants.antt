use Rattle.std.proofs.Common.{◌≡◌}
use Rattle.order_staff.proofs.staff.empty_plans.Given as goal

abbrev pub invariant-loop : goal.invariant-loop
invariant-loop l = l.plans.len ≡ l.counter
