use Rattle.std.proofs.Common.{refl}
use Rattle.plan_values.specs.Plans.{payloads_of}
use Rattle.plan_outbox.proofs.Agreeing.{shut_of, open_of, front_shut, front_agrees, front_differs}
use Rattle.plan_outbox.proofs.front.Front.behind.Goals as goal

pub returns-then-not-self : goal.returns-then-not-self
returns-then-not-self c = record { front = λ sent f. front_shut (payloads_of c.args.plan.now) sent c.args.payload.now c.args.self f (shut_of _ c.if-not-self.true) }

pub returns-then-is_next : goal.returns-then-is_next
returns-then-is_next c = record { front = λ sent f. front_agrees (payloads_of c.args.plan.now) sent c.args.payload.now c.args.self f _ (open_of _ c.if-not-self.false) (c.is_next.ensures.yes c.if-is_next.true) refl refl }

pub returns-else-is_next : goal.returns-else-is_next
returns-else-is_next c = record { front = λ sent f. front_differs (payloads_of c.args.plan.now) sent c.args.payload.now c.args.self f _ (open_of _ c.if-not-self.false) (c.is_next.ensures.no c.if-is_next.false) refl refl }
