use Rattle.std.proofs.Common.{◌≤◌}
use Rattle.cmd_base.specs.Order.{HasGiven}
use Rattle.cmd_codec.specs.Decodes.{Stands}
use Rattle.cmd_codec.proofs.stream.print_frames.Given as goal

abbrev pub invariant-loop : goal.invariant-loop
invariant-loop g l =
    let left = g.S.Source.left in
    let taken = g.K.Sink.taken in
    record {
      stands : Stands l.shown l.plan (record { input = left l.fn.input; out = taken l.fn.out }) (record { input = left l.input; out = taken l.out }) l.decoder;
      given : HasGiven (left l.fn.input) (left l.input);
      input_counted : g.S.Source.faults l.fn.input ≤ g.S.Source.faults l.input;
      out_counted : g.K.Sink.faults l.fn.out ≤ g.K.Sink.faults l.out;
    }
