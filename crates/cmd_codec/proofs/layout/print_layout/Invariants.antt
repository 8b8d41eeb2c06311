use Rattle.std.proofs.Common.{◌≤◌}
use Rattle.cmd_codec.proofs.Printing.{Printed}
use Rattle.cmd_codec.proofs.layout.print_layout.Given as goal

abbrev pub invariant-loop-message : goal.invariant-loop-message
invariant-loop-message g l = record {
  printed : Printed l.schema.schema.types l.schema.schema.messages l.message-index (g.K.Sink.taken l.fn.out) (g.K.Sink.taken l.out);
  counted : g.K.Sink.faults l.fn.out ≤ g.K.Sink.faults l.out;
}
