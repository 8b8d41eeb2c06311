use Rattle.std.proofs.Common.{◌≡◌, ◌≤◌, true, false, [], length, take}
use Rattle.crossbeam_queue.specs.Passes.{view, IsPassOf}
use Rattle.order_gate.specs.Line.{log}
use Rattle.order_gate.proofs.line.deal.Given as goal

abbrev pub invariant-loop : goal.invariant-loop
invariant-loop g l = IsPassOf l.line l.end × (view l.end ≡ log true false (take l.next l.places) []) × (l.next ≤ length l.places)
