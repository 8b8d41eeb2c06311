use Rattle.std.proofs.Common.{All, take}
use Rattle.gate_staff.specs.Runs.{IsAdmitted}
use Rattle.gate_staff.proofs.plans.any_turned.Given as goal

abbrev pub invariant-loop-sender : goal.invariant-loop-sender
invariant-loop-sender g l = All IsAdmitted (take l.sender-index l.senders)
