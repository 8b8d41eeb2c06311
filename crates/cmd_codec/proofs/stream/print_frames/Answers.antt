use Rattle.std.proofs.Common.{◌≡◌, true, false, Ok, inr, refl, arith}
use Rattle.std.proofs.KnownBytes.{Consumes-nil}
use Rattle.cmd_base.proofs.Giving.{gave-on}
use Rattle.cmd_codec.specs.Decodes.{Streams}
use Rattle.cmd_codec.proofs.Streaming.{empty, stands-new}
use Rattle.cmd_codec.proofs.stream.print_frames.Goals as goal

pub returns-then-not-more-clause-promise : goal.returns-then-not-more-clause-promise
returns-then-not-more-clause-promise g c =
    let before : Streams = record { input = g.S.Source.left c.args.input.now; out = g.K.Sink.taken c.args.out.now } in
    let after : Streams = record { input = g.S.Source.left c.read.new.input; out = g.K.Sink.taken c.begin.new.sink } in
    let e : c.read.result ≡ Ok false = cc (c.in-Ok-read.is, c.if-not-more.true) in
    empty c.args.shown c.args.plan.now before after c.in-Ok.decoder c.in-Ok.ensures (c.read.ensures.nothing e) (c.read.ensures.end e) c.begin.ensures.nothing

pub loop-init : goal.loop-init
loop-init g c =
    let before : Streams = record { input = g.S.Source.left c.args.input.now; out = g.K.Sink.taken c.args.out.now } in
    let now : Streams = record { input = g.S.Source.left c.args.input.now; out = g.K.Sink.taken c.begin.new.sink } in
    let e : c.read.result ≡ Ok true = cc (c.in-Ok-read.is, c.if-not-more.false) in
    record {
      stands = c.read.ensures.more e c.args.shown c.args.plan.now before (g.K.Sink.taken c.begin.new.sink) (stands-new c.args.shown c.args.plan.now before now c.in-Ok.decoder c.in-Ok.ensures refl c.begin.ensures.nothing (Consumes-nil (g.S.Source.left c.args.input.now)));
      given = c.read.ensures.given e;
      input_counted = c.read.ensures.cause.never_falls;
      out_counted = c.begin.ensures.cause.never_falls;
    }

pub loop-preserved : goal.loop-preserved
loop-preserved g c = record {
  stands = (rw c.in-Ok-true.field-0-test at c.in-Ok-true.ensures.after) _ c.loop.invariant.stands;
  given = gave-on _ _ _ c.round.ensures.consumed.0 c.loop.invariant.given c.round.ensures.consumed.1;
  input_counted = omega (arith, c.loop.invariant.input_counted, c.round.ensures.input_counted);
  out_counted = omega (arith, c.loop.invariant.out_counted, c.round.ensures.out_counted);
}

pub returns-in-Ok-false-clause-promise : goal.returns-in-Ok-false-clause-promise
returns-in-Ok-false-clause-promise g c = (rw c.in-Ok-false.field-0-test at c.in-Ok-false.ensures.after) _ c.loop.invariant.stands

pub returns-in-Err-clause-promise : goal.returns-in-Err-clause-promise
returns-in-Err-clause-promise g c = c.in-Err.ensures.after _ c.loop.invariant.stands

pub returns-in-Err-clause-spared : goal.returns-in-Err-clause-spared
returns-in-Err-clause-spared g c = λ e. inr (gave-on _ _ _ c.round.ensures.consumed.0 c.loop.invariant.given c.round.ensures.consumed.1)
