use Rattle.std.proofs.Common.{ℕ, refl, sym, subst}
use Rattle.cmd_base.specs.Contents.{Content}
use Rattle.cmd_muxanswer.specs.declared.outcome.Outcome.TheVariants as outcomes
use Rattle.cmd_muxanswer.specs.Progress.{KeepsPromise}
use Rattle.cmd_muxanswer.proofs.Rounds.{kept_front, cut_front, stands_of, talks_on, after_stop, once_of, idle_emptied}
use Rattle.cmd_muxanswer.proofs.conversation.Conversation.round.Goals as goal

pub returns-in_default-clause-after : goal.returns-in_default-clause-after
returns-in_default-clause-after g c = λ sessions before talks.
    kept_front sessions (once_of sessions talks.read talks.wire talks.out c.args.self.now talks.stands c.requires.ready.known.once) before _ c.args.self.now talks (record { input = g.S.Source.left c.args.input.now; wire = g.K.Sink.taken c.args.wire.now; out = g.K.Sink.taken c.args.out.now }) refl refl

pub returns-in_default-push-clause-after : goal.returns-in_default-push-clause-after
returns-in_default-push-clause-after g c = λ sessions before talks.
    cut_front sessions (once_of sessions talks.read talks.wire talks.out c.args.self.now talks.stands c.requires.ready.known.once) before (record { input = g.S.Source.left c.args.input.now; wire = g.K.Sink.taken c.args.wire.now; out = g.K.Sink.taken c.args.out.now }) _ c.take_frames.new.self talks.read talks.wire talks.out
    (stands_of c.in-Ok.step sessions talks.read talks.wire talks.out c.take_frames.new.self (c.in-Ok.ensures.leaves sessions talks.read talks.wire talks.out talks.stands))
    talks.consumed talks.wire_gained talks.out_gained c.in_default-push.ensures.wire_front c.in_default-push.ensures.out_front

pub returns-in-Took-clause-after : goal.returns-in-Took-clause-after
returns-in-Took-clause-after g c = λ sessions before talks.
    let stands = stands_of c.in-Ok.step sessions talks.read talks.wire talks.out c.take_frames.new.self (c.in-Ok.ensures.leaves sessions talks.read talks.wire talks.out talks.stands) in
    talks_on sessions before (record { input = g.S.Source.left c.args.input.now; wire = g.K.Sink.taken c.args.wire.now; out = g.K.Sink.taken c.args.out.now }) (record { input = g.S.Source.left c.args.input.now; wire = g.K.Sink.taken c.push.new.wire; out = g.K.Sink.taken c.push.new.out })
    c.take_frames.new.self c.push.new.self talks.read talks.wire talks.out stands talks.consumed talks.wire_gained talks.out_gained c.in-Ok-push.ensures.wire c.in-Ok-push.ensures.out c.in-Ok-push.ensures.emptied

pub returns-in-Waits-clause-after : goal.returns-in-Waits-clause-after
returns-in-Waits-clause-after g c = λ sessions before talks.
    let stands = stands_of c.in-Ok.step sessions talks.read talks.wire talks.out c.take_frames.new.self (c.in-Ok.ensures.leaves sessions talks.read talks.wire talks.out talks.stands) in
    c.read.ensures.after sessions before (g.K.Sink.taken c.push.new.wire) (g.K.Sink.taken c.push.new.out) (
    talks_on sessions before (record { input = g.S.Source.left c.args.input.now; wire = g.K.Sink.taken c.args.wire.now; out = g.K.Sink.taken c.args.out.now }) (record { input = g.S.Source.left c.args.input.now; wire = g.K.Sink.taken c.push.new.wire; out = g.K.Sink.taken c.push.new.out })
    c.take_frames.new.self c.push.new.self talks.read talks.wire talks.out stands talks.consumed talks.wire_gained talks.out_gained c.in-Ok-push.ensures.wire c.in-Ok-push.ensures.out c.in-Ok-push.ensures.emptied)

pub returns-in-Stops-clause-after : goal.returns-in-Stops-clause-after
returns-in-Stops-clause-after g c = λ sessions before talks.
    let leaves = rw c.in-Stops.is at (c.in-Ok.ensures.leaves sessions talks.read talks.wire talks.out talks.stands) in
    let after : Content = record { input = g.S.Source.left c.args.input.now; wire = g.K.Sink.taken c.push.new.wire; out = g.K.Sink.taken c.push.new.out } in
    subst (λ (n : ℕ). KeepsPromise sessions before after (outcomes.Mux n c.in-Stops.why)) (sym c.in-Ok-push.ensures.emptied.place)
    (after_stop sessions before (record { input = g.S.Source.left c.args.input.now; wire = g.K.Sink.taken c.args.wire.now; out = g.K.Sink.taken c.args.out.now }) after
    c.take_frames.new.self talks.read talks.wire talks.out c.in-Stops.why leaves talks.consumed talks.wire_gained talks.out_gained c.in-Ok-push.ensures.wire c.in-Ok-push.ensures.out)

pub read-requires-clause-idle : goal.read-requires-clause-idle
read-requires-clause-idle g c = idle_emptied c.take_frames.new.self c.push.new.self c.in-Ok.ensures.open c.in-Ok-push.ensures.emptied

pub returns-in-Took-clause-idle : goal.returns-in-Took-clause-idle
returns-in-Took-clause-idle g c = λ e. idle_emptied c.take_frames.new.self c.push.new.self c.in-Ok.ensures.open c.in-Ok-push.ensures.emptied
