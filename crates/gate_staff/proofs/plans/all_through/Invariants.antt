use Rattle.std.proofs.Common.{All, take}
use Rattle.gate_staff.specs.Runs.{IsThrough}
use Rattle.gate_staff.proofs.plans.all_through.Given as goal

abbrev pub invariant-loop-sender : goal.invariant-loop-sender
invariant-loop-sender g l = All IsThrough (take l.sender-index l.senders)
