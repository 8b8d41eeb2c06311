use Rattle.std.proofs.Common.{◌≡◌, true, false, [], flat_map, length}
use Rattle.crossbeam_queue.specs.Passes.{view, IsPassOf}
use Rattle.order_desk.specs.Plans.{answers}
use Rattle.order_gate.specs.Line.{log}
use Rattle.order_gate.specs.Places.{at_places}
use Rattle.order_gate.proofs.share.reports_of_line.Given as goal

abbrev pub invariant-loop : goal.invariant-loop
invariant-loop g l = record {
  own : IsPassOf l.line l.end;
  popped : view l.end ≡ log false true [] (view l.end).popped;
  count : length (view l.end).popped ≡ l.counter;
  reports : l.reports.items ≡ flat_map (answers l.call.plan.now l.number l.call.reference) (at_places l.call.payloads.now (view l.end).popped);
}
