use Rattle.std.proofs.Common.{ℕ, refl, ap, ◌∙◌}
use Rattle.fixp_machine.specs.Machine.{State}
use Rattle.cmd_answer.specs.Answer.{status_after}
use Rattle.cmd_answer.specs.Promise.{round_of}
use Rattle.cmd_answer.proofs.Rounds.{kept-front, cut-front, talks-on, last_of, after-end}
use Rattle.cmd_answer.proofs.acceptor.Acceptor.round.Goals as goal

pub returns-in_default-clause-after : goal.returns-in_default-clause-after
returns-in_default-clause-after g c = λ cfg before talks.
    kept-front cfg before _ c.args.self.now talks (record { input = g.S.Source.left c.args.input.now; wire = g.K.Sink.taken c.args.wire.now; out = g.K.Sink.taken c.args.out.now }) refl refl

pub returns-in_default-push-clause-after : goal.returns-in_default-push-clause-after
returns-in_default-push-clause-after g c = λ cfg before talks.
    cut-front cfg before (record { input = g.S.Source.left c.args.input.now; wire = g.K.Sink.taken c.args.wire.now; out = g.K.Sink.taken c.args.out.now }) _ c.answer_piece.new.self talks.read talks.wire talks.out c.in-Ok.step
    (c.in-Ok.ensures.answered cfg talks.read talks.wire talks.out talks.stands)
    talks.consumed talks.wire_gained talks.out_gained c.in_default-push.ensures.wire_front c.in_default-push.ensures.out_front

pub returns-in-Answered-clause-after : goal.returns-in-Answered-clause-after
returns-in-Answered-clause-after g c = λ cfg before talks.
    let all = c.in-Ok.ensures.answered cfg talks.read talks.wire talks.out talks.stands in
    let stands = rw c.in-Answered.is at all in
    talks-on cfg before (record { input = g.S.Source.left c.args.input.now; wire = g.K.Sink.taken c.args.wire.now; out = g.K.Sink.taken c.args.out.now }) (record { input = g.S.Source.left c.args.input.now; wire = g.K.Sink.taken c.push.new.wire; out = g.K.Sink.taken c.push.new.out })
    c.answer_piece.new.self c.push.new.self talks.read talks.wire talks.out stands talks.consumed talks.wire_gained talks.out_gained c.in-Ok-push.ensures.wire c.in-Ok-push.ensures.out c.in-Ok-push.ensures.emptied

pub returns-in-Waits-clause-after : goal.returns-in-Waits-clause-after
returns-in-Waits-clause-after g c = λ cfg before talks.
    let all = c.in-Ok.ensures.answered cfg talks.read talks.wire talks.out talks.stands in
    let stands = rw c.in-Waits.is at all in
    c.read.ensures.after cfg before (g.K.Sink.taken c.push.new.wire) (g.K.Sink.taken c.push.new.out) (
    talks-on cfg before (record { input = g.S.Source.left c.args.input.now; wire = g.K.Sink.taken c.args.wire.now; out = g.K.Sink.taken c.args.out.now }) (record { input = g.S.Source.left c.args.input.now; wire = g.K.Sink.taken c.push.new.wire; out = g.K.Sink.taken c.push.new.out })
    c.answer_piece.new.self c.push.new.self talks.read talks.wire talks.out stands talks.consumed talks.wire_gained talks.out_gained c.in-Ok-push.ensures.wire c.in-Ok-push.ensures.out c.in-Ok-push.ensures.emptied)

pub returns-in-Waits-clause-cause : goal.returns-in-Waits-clause-cause
returns-in-Waits-clause-cause g c = c.read.ensures.cause _ _ _ _

pub returns-in-Broken-clause-after : goal.returns-in-Broken-clause-after
returns-in-Broken-clause-after g c = λ cfg before talks.
    let emptied = c.in-Ok-push.ensures.emptied in
    let verdict = c.verdict.ensures ∙ ap (λ (place : ℕ). round_of (status_after place c.push.new.self.end.ending)) emptied.place ∙ ap (λ (end : State). round_of (status_after c.answer_piece.new.self.place end.ending)) emptied.end in
    rw verdict (
    after-end cfg before (record { input = g.S.Source.left c.args.input.now; wire = g.K.Sink.taken c.args.wire.now; out = g.K.Sink.taken c.args.out.now }) (record { input = g.S.Source.left c.args.input.now; wire = g.K.Sink.taken c.push.new.wire; out = g.K.Sink.taken c.push.new.out })
    c.answer_piece.new.self c.push.new.self talks.read talks.wire talks.out c.in-Ok.step (last_of c.in-Ok.step c.in-Broken.is)
    (c.in-Ok.ensures.answered cfg talks.read talks.wire talks.out talks.stands) c.in-Ok.ensures.halts
    talks.consumed talks.wire_gained talks.out_gained c.in-Ok-push.ensures.wire c.in-Ok-push.ensures.out)
