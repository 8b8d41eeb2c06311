use Rattle.gate_staff.proofs.Lowest.{IsLowestUpTo}
use Rattle.gate_staff.proofs.run.lowest_refusal.Given as goal

abbrev pub invariant-loop-sender : goal.invariant-loop-sender
invariant-loop-sender g l = IsLowestUpTo l.senders l.sender-index l.least l.answer
