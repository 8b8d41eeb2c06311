use Rattle.std.proofs.Common.{◌≡◌, ◌≤◌, []}
use Rattle.conn_told.specs.Progress.{StandsSo}
use Rattle.conn_told.proofs.lines.tell_lines.Given as goal

abbrev pub invariant-loop : goal.invariant-loop
invariant-loop g l = record {
  waiting : l.reader.waiting ≡ [];
  empty : l.text.items ≡ [];
  stands : StandsSo l.plan (record { input = g.S.Source.left l.fn.input; out = g.K.Sink.taken l.fn.out }) (record { input = g.S.Source.left l.input; out = g.K.Sink.taken l.out }) l.reader;
  input_counted : g.S.Source.faults l.fn.input ≤ g.S.Source.faults l.input;
  out_counted : g.K.Sink.faults l.fn.out ≤ g.K.Sink.faults l.out;
}
