use Rattle.std.proofs.Common.{◌≡◌, ◌⊎◌, ◌∙◌, inl, inr, ⊎_elim, refl, sym, subst, arith}
use Rattle.jr_kept.specs.Outbox.{faults_of, is_broken}
use Rattle.gate_turn.specs.Rule.{In, Sound}
use Rattle.gate_turn.specs.Listed.{known_at}
use Rattle.gate_senders.specs.Kept.{account}
use Rattle.cmd_feed.proofs.Seating.{never_fell}
use Rattle.cmd_feed.proofs.Statuses.{kind_of, input_only, output_only, dial_only}
use Rattle.cmd_base.specs.declared.status.Status.TheVariants.{InputFault}
use Rattle.cmd_session.specs.Lived.{IsOfLife}
use Rattle.cmd_session.specs.Outsides.{hears}
use Rattle.cmd_session.proofs.Served.{keeps_self}
use Rattle.cmd_feed.proofs.Lived.{lived_fed, fed_moved}
use Rattle.cmd_feed.proofs.life.live_feeding.Goals as goal

pub returns-clause-never_falls : goal.returns-clause-never_falls
returns-clause-never_falls g c =
    let closed = c.close.ensures.closed in
    let inside : In (known_at c.serve_seated-lived.new.passes 1).made 1 = record { from_one = omega arith; up_to = c.serve_seated-lived.ensures.back.some_made } in
    let opening = closed.closed.opened 1 inside ∙ c.in-Ok-made_gate.ensures.opened.told in
    let sound = subst (λ a. Sound a (account c.close.result closed.history closed.refused)) opening (closed.closed.found 1 inside).sound in
    (c.serve_seated-lived.ensures.never_falls.0, never_fell (faults_of c.args.on.outbox) (faults_of c.close.result) (is_broken c.args.on.outbox) (is_broken c.close.result) sound.faults (λ e. (sound.broken e).rose))

pub returns-clause-lived : goal.returns-clause-lived
returns-clause-lived g c =
    let j = c.close.result.journal in
    inr (lived_fed (hears g.K.Sink g.N.Dialer g.N.Link.Link g.C.Clock) c.args.config c.args.senders _ _ _ _ _ _ _ _ _ _ _ _ _ _ c.in-Ok-made_gate.ensures.opened c.requires.sound.0 c.requires.sound.1 c.close.ensures.closed (omega (arith, c.close.result.within.all, j.counted, j.small))
    (fed_moved _ _ _ _ _ _ _ _ _ _ _ _ c.args.senders _ _ (c.in-Ok.ensures.plans ∙ c.from.ensures) refl refl c.serve_seated-lived.ensures.fed) c.status_of_feeding.ensures.value)

pub returns-clause-of_life : goal.returns-clause-of_life
returns-clause-of_life g c =
    let fed = c.serve_seated-lived.result.fed in
    subst (λ s. IsOfLife s ⊎ (s ≡ InputFault)) (sym c.status_of_feeding.ensures.value) (kind_of fed.connections fed.end fed.refused)

pub returns-clause-input : goal.returns-clause-input
returns-clause-input g c = λ e.
    let fed = c.serve_seated-lived.result.fed in
    c.serve_seated-lived.ensures.input (input_only fed.connections fed.end fed.refused (sym c.status_of_feeding.ensures.value ∙ e))

pub returns-clause-output : goal.returns-clause-output
returns-clause-output g c = λ e.
    let fed = c.serve_seated-lived.result.fed in
    ⊎_elim
    (λ h. inl (c.serve_seated-lived.ensures.output h))
    (λ h. inr (c.serve_seated-lived.ensures.accepted h))
    (output_only fed.connections fed.end fed.refused c.serve_seated-lived.ensures.mark.0 (sym c.status_of_feeding.ensures.value ∙ e))

pub returns-clause-dial : goal.returns-clause-dial
returns-clause-dial g c = λ e.
    let fed = c.serve_seated-lived.result.fed in
    c.serve_seated-lived.ensures.dial (dial_only fed.connections fed.end fed.refused c.serve_seated-lived.ensures.mark.1 (sym c.status_of_feeding.ensures.value ∙ e))

pub returns-in_default-clause-lived : goal.returns-in_default-clause-lived
returns-in_default-clause-lived g c = inl (refl, refl, refl, record { cause = inl refl; dialer_is = refl; out_kept = keeps_self (g.K.Sink.taken c.args.on.live.out); box_is = refl; outbox_is = refl })

pub returns-in-Err-clause-lived : goal.returns-in-Err-clause-lived
returns-in-Err-clause-lived g c = inl (refl, refl, refl, record { cause = inl refl; dialer_is = refl; out_kept = keeps_self (g.K.Sink.taken c.args.on.live.out); box_is = refl; outbox_is = c.in-Err.ensures.refused })
