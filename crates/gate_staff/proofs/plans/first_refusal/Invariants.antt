use Rattle.std.proofs.Common.{All, take}
use Rattle.gate_staff.specs.Submitted.{OnlyClosed}
use Rattle.gate_staff.proofs.plans.first_refusal.Given as goal

abbrev pub invariant-loop-sender : goal.invariant-loop-sender
invariant-loop-sender g l = All (OnlyClosed (λ fault. fault)) (take l.sender-index l.senders)
