use Rattle.std.proofs.Common.{◌≡◌, sym, subst}
use Rattle.std.specs.Prelude.{IfOk}
use Rattle.order_staff.specs.Staffs.{plan_by, plan_in}
use Rattle.order_staff.proofs.staff.Staff.new.Goals as goal

pub returns-in-Senders-clause-plan : goal.returns-in-Senders-clause-plan
returns-in-Senders-clause-plan g c = subst (λ p. IfOk c.seated.result (λ r. plan_in r.0 ≡ plan_by p)) (sym c.in-Senders.is) c.seated.ensures.plan

pub returns-in-Desks-clause-plan : goal.returns-in-Desks-clause-plan
returns-in-Desks-clause-plan g c = subst (λ p. IfOk c.desks.result (λ r. plan_in r.0 ≡ plan_by p)) (sym c.in-Desks.is) c.desks.ensures.plan
