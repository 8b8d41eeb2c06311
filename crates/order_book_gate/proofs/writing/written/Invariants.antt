use Rattle.std.proofs.Common.{◌≡◌, take, map, All}
use Rattle.fixp_msgs.specs.Payload.{IsApplication}
use Rattle.order_desk.specs.Reports.{report_bytes}
use Rattle.order_book_gate.proofs.writing.written.Given as goal

abbrev pub invariant-loop-report : goal.invariant-loop-report
invariant-loop-report l = record {
  bytes : l.list ≡ map (report_bytes l.plan) (take l.report-index l.reports);
  applications : All IsApplication l.list;
}
