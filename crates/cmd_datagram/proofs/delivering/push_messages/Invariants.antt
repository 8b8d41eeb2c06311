use Rattle.std.proofs.Common.{◌≡◌, ◌++◌, IsSome, length}
use Rattle.std.specs.List.{flat_map}
use Rattle.fixp_datagram.specs.Delivering.{told_all, counted_all}
use Rattle.cmd_datagram.specs.Lines.{report_line}
use Rattle.cmd_datagram.proofs.delivering.push_messages.Given as goal

-- what is left makes what all make
abbrev pub invariant-loop-payload : goal.invariant-loop-payload
invariant-loop-payload l = record {
  lines : l.lines.items ++ flat_map report_line (told_all l.receiver l.datagram.payloads) ≡ l.initial.lines.items ++ flat_map report_line (told_all l.initial.receiver l.initial.datagram.payloads);
  after : counted_all l.receiver l.datagram.payloads ≡ counted_all l.initial.receiver l.initial.datagram.payloads;
  begun : IsSome l.receiver.counting;
}

abbrev pub decreases-loop-payload : goal.decreases-loop-payload
decreases-loop-payload l = length l.datagram.payloads
