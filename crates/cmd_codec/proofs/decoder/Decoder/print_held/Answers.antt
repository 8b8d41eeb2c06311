use Rattle.std.proofs.Common.{arith}
use Rattle.cmd_codec.proofs.Streaming.{cut-front, kept, kept-front, pushed, stopped-front}
use Rattle.cmd_codec.specs.Decodes.{Streams}
use Rattle.cmd_codec.proofs.decoder.Decoder.print_held.Goals as goal

pub returns-in_default-clause-promise : goal.returns-in_default-clause-promise
returns-in_default-clause-promise g c = λ before input stands.
    cut-front c.args.shown c.args.plan.now before (record { input = input; out = g.K.Sink.taken c.args.out.now }) c.args.self.now c.take_frames.new.self (g.K.Sink.taken c.push.new.out) stands c.in-Ok.ensures.same c.in_default.ensures.err

pub returns-in-Ok-clause-stands : goal.returns-in-Ok-clause-stands
returns-in-Ok-clause-stands g c = λ before input stands.
    let plan = c.args.plan.now in
    let now : Streams = record { input = input; out = g.K.Sink.taken c.args.out.now } in
    pushed c.args.shown plan before now c.take_frames.new.self c.push.new.self (g.K.Sink.taken c.push.new.out) (kept c.args.shown plan before now c.args.self.now c.take_frames.new.self stands c.in-Ok.ensures.same)
    c.in-Ok-push.ensures.ok c.in-Ok-push.ensures.emptied c.push.ensures.framer c.push.ensures.number c.push.ensures.place

pub returns-in_default-push-clause-promise : goal.returns-in_default-push-clause-promise
returns-in_default-push-clause-promise g c = λ before input stands.
    stopped-front c.args.shown c.args.plan.now before (record { input = input; out = g.K.Sink.taken c.args.out.now }) c.args.self.now c.take_frames.new.self c.in-Err-Message.wrong (g.K.Sink.taken c.push-in-Err-Message.new.out) stands
    (rw c.in-Err-Message.field-0-is at c.in-Err-Message.ensures) c.in_default-push.ensures.err

pub returns : goal.returns
returns g c = record {
  idle = tt;
  stands = tt;
  promise = λ before input stands. kept-front c.args.shown c.args.plan.now before (record { input = input; out = g.K.Sink.taken c.args.out.now }) c.args.self.now stands;
  counted = omega arith;
  ends = tt;
  read_nothing = λ e. cc e;
  cause = λ e. absurd (cc e);
}
