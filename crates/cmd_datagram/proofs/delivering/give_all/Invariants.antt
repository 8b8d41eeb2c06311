use Rattle.std.proofs.Common.{◌≡◌, ◌≤◌}
use Rattle.cmd_datagram.specs.Delivered.{Wrote}
use Rattle.cmd_datagram.proofs.Listed.{lines_so_far, receiver_so_far}
use Rattle.cmd_datagram.proofs.delivering.give_all.Given as goal

-- what the deliveries before this one make
abbrev pub invariant-loop-number : goal.invariant-loop-number
invariant-loop-number g l = record {
  wrote : Wrote (g.K.Sink.taken l.initial.out) (lines_so_far l.script l.number-index) (g.K.Sink.taken l.out) l.lines.items;
  receiver : l.receiver ≡ receiver_so_far l.script l.number-index;
  listed : l.number-items ≡ l.script.deliver;
  counted : g.K.Sink.faults l.initial.out ≤ g.K.Sink.faults l.out;
}
