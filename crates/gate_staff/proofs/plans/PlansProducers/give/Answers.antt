use Rattle.std.proofs.Common.{ℕ, ◌<◌, length, slice_index_or, sym, subst}
use Rattle.gate_staff.specs.Runs.{IsReady}
use Rattle.gate_staff.specs.declared.sender.Sender.{Sender}
use Rattle.gate_staff.proofs.plans.PlansProducers.give.Goals as goal

pub returns-clause-ready : goal.returns-clause-ready
returns-clause-ready g c = λ lock senders has k d lt gate is many.
    subst (λ v. (i : ℕ) (e : Sender _ _) → i < length v.items → IsReady gate (slice_index_or v.items i e)) (sym c.replace.ensures.value) (has gate is many) k d lt
