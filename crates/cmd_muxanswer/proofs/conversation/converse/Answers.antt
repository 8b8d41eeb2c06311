use Rattle.std.proofs.Common.{◌≡◌, true, false, Ok, inr, refl, subst, arith}
use Rattle.std.proofs.KnownBytes.{Appends-nil}
use Rattle.cmd_base.proofs.Giving.{gave-on}
use Rattle.cmd_base.specs.Contents.{Content}
use Rattle.cmd_muxanswer.specs.Progress.{AfterRound}
use Rattle.cmd_muxanswer.proofs.Rounds.{talks_new, front_nothing}
use Rattle.cmd_muxanswer.proofs.conversation.converse.Goals as goal

pub returns-in-Err-clause-promise : goal.returns-in-Err-clause-promise
returns-in-Err-clause-promise g c =
    let before : Content = record { input = g.S.Source.left c.args.input.now; wire = g.K.Sink.taken c.args.wire.now; out = g.K.Sink.taken c.args.out.now } in
    c.in-Err.ensures.after c.args.sessions before before.wire before.out (talks_new c.args.sessions before before c.in-Ok.conversation c.in-Ok.ensures.stands refl (Appends-nil before.wire) (Appends-nil before.out))

pub returns-then-not-more-clause-promise : goal.returns-then-not-more-clause-promise
returns-then-not-more-clause-promise g c =
    let before : Content = record { input = g.S.Source.left c.args.input.now; wire = g.K.Sink.taken c.args.wire.now; out = g.K.Sink.taken c.args.out.now } in
    let now : Content = record { input = g.S.Source.left c.args.input.now; wire = g.K.Sink.taken c.begin-2.new.sink; out = g.K.Sink.taken c.begin.new.sink } in
    let after : Content = record { input = g.S.Source.left c.read.new.input; wire = now.wire; out = now.out } in
    let e : c.read.result ≡ Ok false = cc (c.in-Ok-read.is, c.if-not-more.true) in
    subst (AfterRound c.args.sessions before after c.read.new.self) e
    (c.read.ensures.after c.args.sessions before now.wire now.out (talks_new c.args.sessions before now c.in-Ok.conversation c.in-Ok.ensures.stands refl c.begin-2.ensures.nothing c.begin.ensures.nothing))

pub loop-init : goal.loop-init
loop-init g c =
    let before : Content = record { input = g.S.Source.left c.args.input.now; wire = g.K.Sink.taken c.args.wire.now; out = g.K.Sink.taken c.args.out.now } in
    let now : Content = record { input = g.S.Source.left c.args.input.now; wire = g.K.Sink.taken c.begin-2.new.sink; out = g.K.Sink.taken c.begin.new.sink } in
    let after : Content = record { input = g.S.Source.left c.read.new.input; wire = now.wire; out = now.out } in
    let e : c.read.result ≡ Ok true = cc (c.in-Ok-read.is, c.if-not-more.false) in
    record {
      idle = c.read.ensures.idle e;
      talks = subst (AfterRound c.args.sessions before after c.read.new.self) e
          (c.read.ensures.after c.args.sessions before now.wire now.out (talks_new c.args.sessions before now c.in-Ok.conversation c.in-Ok.ensures.stands refl c.begin-2.ensures.nothing c.begin.ensures.nothing));
      given = c.read.ensures.given e;
      inputs = c.read.ensures.counted;
      wires = c.begin-2.ensures.cause.never_falls;
      outs = c.begin.ensures.cause.never_falls;
    }

pub loop-preserved : goal.loop-preserved
loop-preserved g c = record {
  idle = (rw c.in-Ok-true.field-0-test at c.in-Ok-true.ensures.idle) refl;
  talks = (rw c.in-Ok-true.field-0-test at c.in-Ok-true.ensures.after) c.args.sessions _ c.loop.invariant.talks;
  given = gave-on _ _ _ c.round.ensures.consumed.0 c.loop.invariant.given c.round.ensures.consumed.1;
  inputs = omega (arith, c.loop.invariant.inputs, c.round.ensures.never_falls.0);
  wires = omega (arith, c.loop.invariant.wires, c.round.ensures.never_falls.1);
  outs = omega (arith, c.loop.invariant.outs, c.round.ensures.never_falls.2);
}

pub returns-in-Ok-false-clause-promise : goal.returns-in-Ok-false-clause-promise
returns-in-Ok-false-clause-promise g c = (rw c.in-Ok-false.field-0-test at c.in-Ok-false.ensures.after) c.args.sessions _ c.loop.invariant.talks

pub returns-in-Err-round-clause-promise : goal.returns-in-Err-round-clause-promise
returns-in-Err-round-clause-promise g c = c.in-Err-round.ensures.after c.args.sessions _ c.loop.invariant.talks

pub returns-in-Err-round-clause-spared : goal.returns-in-Err-round-clause-spared
returns-in-Err-round-clause-spared g c = λ e. inr (gave-on _ _ _ c.round.ensures.consumed.0 c.loop.invariant.given c.round.ensures.consumed.1)

pub returns-in_default-begin-clause-promise : goal.returns-in_default-begin-clause-promise
returns-in_default-begin-clause-promise g c = λ input e.
    front_nothing c.args.sessions input (record { input = g.S.Source.left c.args.input.now; wire = g.K.Sink.taken c.args.wire.now; out = g.K.Sink.taken c.args.out.now })
    (record { input = g.S.Source.left c.read.new.input; wire = g.K.Sink.taken c.args.wire.now; out = g.K.Sink.taken c.begin.new.sink }) (Appends-nil (g.K.Sink.taken c.args.wire.now)) c.begin.ensures.nothing
