use Rattle.std.proofs.Common.{◌≡◌, ◌≤◌, []}
use Rattle.jr_record.specs.Records.{IsSender}
use Rattle.plan_lines.specs.Progress.{StandsSo}
use Rattle.plan_lines.proofs.stream.plan_messages.Given as goal

abbrev pub invariant-loop : goal.invariant-loop
invariant-loop g l = record {
  waiting : l.reader.waiting ≡ [];
  empty : l.place.lines.items ≡ [];
  sender : IsSender l.place.sender;
  form : l.place.form ≡ l.fn.form;
  stands : StandsSo l.plan (record { input = g.S.Source.left l.fn.input; out = g.K.Sink.taken l.fn.out }) (record { input = g.S.Source.left l.input; out = g.K.Sink.taken l.out }) l.reader l.place;
  input_counted : g.S.Source.faults l.fn.input ≤ g.S.Source.faults l.input;
  out_counted : g.K.Sink.faults l.fn.out ≤ g.K.Sink.faults l.out;
}
