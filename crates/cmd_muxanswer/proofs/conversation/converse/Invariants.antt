use Rattle.std.proofs.Common.{◌≤◌}
use Rattle.cmd_base.specs.Order.{HasGiven}
use Rattle.cmd_muxanswer.specs.Progress.{Talks, IsIdle}
use Rattle.cmd_muxanswer.proofs.conversation.converse.Given as goal

abbrev pub invariant-loop : goal.invariant-loop
invariant-loop g l =
    let left = g.S.Source.left in
    let taken = g.K.Sink.taken in
    record {
      idle : IsIdle l.conversation;
      talks : Talks l.fn.sessions (record { input = left l.fn.input; wire = taken l.fn.wire; out = taken l.fn.out }) (record { input = left l.input; wire = taken l.wire; out = taken l.out }) l.conversation;
      given : HasGiven (left l.fn.input) (left l.input);
      inputs : g.S.Source.faults l.fn.input ≤ g.S.Source.faults l.input;
      wires : g.K.Sink.faults l.fn.wire ≤ g.K.Sink.faults l.wire;
      outs : g.K.Sink.faults l.fn.out ≤ g.K.Sink.faults l.out;
    }
