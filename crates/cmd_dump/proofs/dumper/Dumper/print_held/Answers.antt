use Rattle.cmd_dump.specs.Progress.{Stops, Streams, Waiting}
use Rattle.cmd_dump.proofs.Streaming.{failed, idle, kept, kept-memory, pushed, stopped-whole}
use Rattle.cmd_dump.proofs.dumper.Dumper.print_held.Goals as goal

pub returns-in_default-clause-promise : goal.returns-in_default-clause-promise
returns-in_default-clause-promise g c = λ before input stands.
    kept-memory c.args.plan.now before (record { input = input; out = g.K.Sink.taken c.args.out.now }) c.args.self.now stands

pub returns-in_default-push-clause-promise : goal.returns-in_default-push-clause-promise
returns-in_default-push-clause-promise g c = λ before input stands.
    failed c.args.plan.now before (record { input = input; out = g.K.Sink.taken c.args.out.now }) c.args.self.now c.take_frames.new.self c.in-Ok.waits (g.K.Sink.taken c.push.new.out) stands
    (λ e. rw e at c.in-Ok.ensures) (λ e. rw e at c.in-Ok.ensures) c.in_default-push.ensures.err

pub returns-then-not-waits-clause-promise : goal.returns-then-not-waits-clause-promise
returns-then-not-waits-clause-promise g c = λ before input stands.
    let stops : Stops c.args.plan.now c.args.self.now c.take_frames.new.self = rw c.if-not-waits.true at c.in-Ok.ensures in
    stopped-whole c.args.plan.now before (record { input = input; out = g.K.Sink.taken c.args.out.now }) c.args.self.now c.take_frames.new.self (g.K.Sink.taken c.push.new.out) c.push.new.self.place stands
    stops c.push.ensures.place c.in-Ok-push.ensures.ok

pub returns-clause-idle : goal.returns-clause-idle
returns-clause-idle g c =
    let waiting : Waiting c.args.plan.now c.args.self.now c.take_frames.new.self = rw c.if-not-waits.false at c.in-Ok.ensures in
    idle c.args.plan.now c.args.self.now c.take_frames.new.self c.push.new.self waiting c.push.ensures.framer c.in-Ok-push.ensures.emptied

pub returns-clause-stands : goal.returns-clause-stands
returns-clause-stands g c = λ before input stands.
    let plan = c.args.plan.now in
    let now : Streams = record { input = input; out = g.K.Sink.taken c.args.out.now } in
    let waiting : Waiting plan c.args.self.now c.take_frames.new.self = rw c.if-not-waits.false at c.in-Ok.ensures in
    pushed plan before now c.take_frames.new.self c.push.new.self (g.K.Sink.taken c.push.new.out) (kept plan before now c.args.self.now c.take_frames.new.self stands waiting.same)
    c.in-Ok-push.ensures.ok c.in-Ok-push.ensures.emptied c.push.ensures.framer c.push.ensures.number c.push.ensures.place c.push.ensures.counter
