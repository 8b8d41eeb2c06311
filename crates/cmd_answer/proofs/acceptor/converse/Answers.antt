use Rattle.std.proofs.Common.{◌≡◌, true, false, Ok, inr, refl, subst, arith}
use Rattle.std.proofs.KnownBytes.{Appends-nil}
use Rattle.cmd_base.proofs.Giving.{gave-on}
use Rattle.cmd_base.specs.Contents.{Content}
use Rattle.cmd_answer.specs.Answer.{acceptor_of}
use Rattle.cmd_answer.specs.Promise.{AfterRound}
use Rattle.cmd_answer.proofs.Rounds.{talks-new}
use Rattle.cmd_answer.proofs.acceptor.converse.Goals as goal

pub returns-in-Err-clause-promise : goal.returns-in-Err-clause-promise
returns-in-Err-clause-promise g c =
    let before : Content = record { input = g.S.Source.left c.args.input.now; wire = g.K.Sink.taken c.args.wire.now; out = g.K.Sink.taken c.args.out.now } in
    c.in-Err.ensures.after (acceptor_of c.args.settings) before before.wire before.out (talks-new c.args.settings before before c.in-Ok.acceptor c.in-Ok.ensures refl (Appends-nil before.wire) (Appends-nil before.out))

pub returns-in-Err-clause-cause : goal.returns-in-Err-clause-cause
returns-in-Err-clause-cause g c = c.in-Err.ensures.cause _ _ _ _

pub returns-then-not-more-clause-promise : goal.returns-then-not-more-clause-promise
returns-then-not-more-clause-promise g c =
    let before : Content = record { input = g.S.Source.left c.args.input.now; wire = g.K.Sink.taken c.args.wire.now; out = g.K.Sink.taken c.args.out.now } in
    let now : Content = record { input = g.S.Source.left c.args.input.now; wire = g.K.Sink.taken c.begin-2.new.sink; out = g.K.Sink.taken c.begin.new.sink } in
    let after : Content = record { input = g.S.Source.left c.read.new.input; wire = now.wire; out = now.out } in
    let e : c.read.result ≡ Ok false = cc (c.in-Ok-read.is, c.if-not-more.true) in
    subst (AfterRound (acceptor_of c.args.settings) before after c.read.new.self) e
    (c.read.ensures.after (acceptor_of c.args.settings) before now.wire now.out (talks-new c.args.settings before now c.in-Ok.acceptor c.in-Ok.ensures refl c.begin-2.ensures.nothing c.begin.ensures.nothing))

pub loop-init : goal.loop-init
loop-init g c =
    let before : Content = record { input = g.S.Source.left c.args.input.now; wire = g.K.Sink.taken c.args.wire.now; out = g.K.Sink.taken c.args.out.now } in
    let now : Content = record { input = g.S.Source.left c.args.input.now; wire = g.K.Sink.taken c.begin-2.new.sink; out = g.K.Sink.taken c.begin.new.sink } in
    let after : Content = record { input = g.S.Source.left c.read.new.input; wire = now.wire; out = now.out } in
    let e : c.read.result ≡ Ok true = cc (c.in-Ok-read.is, c.if-not-more.false) in
    record {
      idle = c.read.ensures.idle e;
      talks = subst (AfterRound (acceptor_of c.args.settings) before after c.read.new.self) e
          (c.read.ensures.after (acceptor_of c.args.settings) before now.wire now.out (talks-new c.args.settings before now c.in-Ok.acceptor c.in-Ok.ensures refl c.begin-2.ensures.nothing c.begin.ensures.nothing));
      given = c.read.ensures.given e;
      fell = record {
        config = omega arith;
        input = c.read.ensures.counted;
        wire = c.begin-2.ensures.cause.never_falls;
        out = c.begin.ensures.cause.never_falls;
        out_disk = omega arith;
        in_disk = omega arith;
      };
    }

pub loop-preserved : goal.loop-preserved
loop-preserved g c = record {
  idle = (rw c.in-Ok-true.field-0-test at c.in-Ok-true.ensures.idle) refl;
  talks = (rw c.in-Ok-true.field-0-test at c.in-Ok-true.ensures.after) (acceptor_of c.args.settings) _ c.loop.invariant.talks;
  given = gave-on _ _ _ c.round.ensures.consumed.0 c.loop.invariant.given c.round.ensures.consumed.1;
  fell = record {
    config = omega arith;
    input = omega (arith, c.loop.invariant.fell.input, c.round.ensures.none_fell.input);
    wire = omega (arith, c.loop.invariant.fell.wire, c.round.ensures.none_fell.wire);
    out = omega (arith, c.loop.invariant.fell.out, c.round.ensures.none_fell.out);
    out_disk = omega arith;
    in_disk = omega arith;
  };
}

pub returns-in-Ok-false-clause-promise : goal.returns-in-Ok-false-clause-promise
returns-in-Ok-false-clause-promise g c = (rw c.in-Ok-false.field-0-test at c.in-Ok-false.ensures.after) (acceptor_of c.args.settings) _ c.loop.invariant.talks

pub returns-in-Err-round-clause-promise : goal.returns-in-Err-round-clause-promise
returns-in-Err-round-clause-promise g c = c.in-Err-round.ensures.after (acceptor_of c.args.settings) _ c.loop.invariant.talks

pub returns-in-Err-round-clause-spared : goal.returns-in-Err-round-clause-spared
returns-in-Err-round-clause-spared g c = λ e. inr (gave-on _ _ _ c.round.ensures.consumed.0 c.loop.invariant.given c.round.ensures.consumed.1)
