use Rattle.std.proofs.Common.{◌∙◌, inl, inr, refl, subst, arith}
use Rattle.jr_kept.specs.Outbox.{faults_of, is_broken}
use Rattle.gate_turn.specs.Rule.{In, Sound}
use Rattle.gate_turn.specs.Listed.{known_at}
use Rattle.gate_senders.specs.Kept.{account}
use Rattle.cmd_session.proofs.Counting.{never_fell}
use Rattle.cmd_session.proofs.Served.{keeps_self}
use Rattle.cmd_session.proofs.answering.live_answering.Goals as goal

pub returns-clause-never_falls : goal.returns-clause-never_falls
returns-clause-never_falls g c =
    let closed = c.close.ensures.closed in
    let inside : In (known_at c.serve_answerer-lived.new.back 1).made 1 = record { from_one = omega arith; up_to = c.serve_answerer-lived.ensures.back.some_made } in
    let opening = closed.closed.opened 1 inside ∙ c.in-Ok.ensures.opened.told in
    let sound = subst (λ a. Sound a (account c.close.result closed.history closed.refused)) opening (closed.closed.found 1 inside).sound in
    (c.serve_answerer-lived.ensures.never_falls.0, never_fell (faults_of c.args.over.outbox) (faults_of c.close.result) (is_broken c.args.over.outbox) (is_broken c.close.result) sound.faults (λ e. (sound.broken e).rose))

pub returns-clause-lived : goal.returns-clause-lived
returns-clause-lived g c =
    let j = c.close.result.journal in
    inr (record {
      result = c.serve_answerer-lived.result.answer;
      status_is = c.status_of.ensures.value;
      boxes = c.serve_answerer-lived.ensures.lived c.args.over.outbox c.close.result c.in-Ok.ensures.opened c.requires.sound.0 c.close.ensures.closed (omega (arith, c.close.result.within.all, j.counted, j.small));
    })

pub returns-in-Err-clause-lived : goal.returns-in-Err-clause-lived
returns-in-Err-clause-lived g c = inl (record { cause = inl refl; dialer_is = refl; out_kept = keeps_self (g.K.Sink.taken c.args.over.live.out); box_is = refl; outbox_is = c.in-Err.ensures.refused })
