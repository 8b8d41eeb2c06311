use Rattle.std.proofs.Common.{◌≡◌, take, All}
use Rattle.std.specs.List.{AllByRecursion}
use Rattle.fixp_msgs.specs.Payload.{IsApplication}
use Rattle.order_book.specs.Laws.{IsRested}
use Rattle.order_book_gate.specs.Plan.{answers, resting_behind}
use Rattle.order_book_gate.proofs.orders.take_orders.Given as goal

abbrev pub invariant-loop-payload : goal.invariant-loop-payload
invariant-loop-payload l = record {
  rested : AllByRecursion IsRested l.book;
  resting : l.book ≡ resting_behind l.plan l.fn.book (take l.payload-index l.payloads);
  reports : l.reports.items ≡ answers l.plan l.fn.book (take l.payload-index l.payloads);
  applications : All IsApplication l.reports.items;
}
