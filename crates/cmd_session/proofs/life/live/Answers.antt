use Rattle.std.proofs.Common.{◌∙◌, inl, inr, refl, subst, arith}
use Rattle.life_laws.proofs.Boxes.{lived_boxes}
use Rattle.jr_kept.specs.Outbox.{faults_of, is_broken}
use Rattle.gate_turn.specs.Rule.{In, Sound}
use Rattle.gate_turn.specs.Listed.{known_at}
use Rattle.gate_senders.specs.Kept.{account}
use Rattle.cmd_session.proofs.Counting.{never_fell}
use Rattle.cmd_session.proofs.Served.{keeps_self}
use Rattle.cmd_session.proofs.life.live.Goals as goal

pub returns-clause-never_falls : goal.returns-clause-never_falls
returns-clause-never_falls g c =
    let closed = c.close-outbox.ensures.closed in
    let inside : In (known_at c.serve_seated-lived.new.passes 1).made 1 = record { from_one = omega arith; up_to = c.serve_seated-lived.ensures.back.some_made } in
    let opening = closed.closed.opened 1 inside ∙ c.in-Ok-made_gate.ensures.opened.told in
    let sound = subst (λ a. Sound a (account c.close-outbox.result closed.history closed.refused)) opening (closed.closed.found 1 inside).sound in
    (c.serve_seated-lived.ensures.never_falls.0, never_fell (faults_of c.args.over.outbox) (faults_of c.close-outbox.result) (is_broken c.args.over.outbox) (is_broken c.close-outbox.result) sound.faults (λ e. (sound.broken e).rose))

pub returns-clause-lived : goal.returns-clause-lived
returns-clause-lived g c =
    let j = c.close-outbox.result.journal in
    inr (record {
      result = c.serve_seated-lived.result.answer;
      status_is = c.status_of.ensures.value;
      boxes = lived_boxes _ _ _ _ _ _ _ _ _ _ _ _ _ _ c.in-Ok-made_gate.ensures.opened c.requires.sound.0 c.requires.sound.1 c.close-outbox.ensures.closed (omega (arith, c.close-outbox.result.within.all, j.counted, j.small)) c.serve_seated-lived.ensures.served;
    })

pub returns-in_default-clause-lived : goal.returns-in_default-clause-lived
returns-in_default-clause-lived g c = inl (record { cause = inl refl; dialer_is = refl; out_kept = keeps_self (g.K.Sink.taken c.args.over.live.out); box_is = refl; outbox_is = refl })

pub returns-in-Err-clause-lived : goal.returns-in-Err-clause-lived
returns-in-Err-clause-lived g c = inl (record { cause = inl refl; dialer_is = refl; out_kept = keeps_self (g.K.Sink.taken c.args.over.live.out); box_is = refl; outbox_is = c.in-Err.ensures.refused })
