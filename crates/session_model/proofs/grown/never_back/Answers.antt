use Rattle.std.proofs.Common.{[], ◌∷◌, None, get_or, sym, ap, ◌∙◌}
use Rattle.session_model.specs.Events.{standing}
use Rattle.session_model.specs.Views.{event_of}
use Rattle.session_model.specs.declared.event.Announcer.TheVariants.{Handshake}
use Rattle.session_model.specs.declared.event.Event.TheVariants.{Announce}
use Rattle.session_model.proofs.Steps.{standing_more}
use Rattle.session_model.proofs.Growing.{never_back_more, never_back_here}
use Rattle.session_model.proofs.grown.never_back.Goals as goal

pub returns-then-not-goes_on : goal.returns-then-not-goes_on
returns-then-not-goes_on c =
    let i = c.loop-event.event-index in
    record {
      exact = (
        λ t. absurd (cc t),
        λ all. sym c.if-not-goes_on.true ∙ c.goes_on.ensures.exact.1
            (never_back_here c.args.next c.loop-event.standing c.args.events.now i (Announce Handshake None) c.loop-event-test.true c.loop-event.invariant.stands all),
      );
    }

pub loop-event-preserved : goal.loop-event-preserved
loop-event-preserved c =
    let es = c.args.events.now in
    let i = c.loop-event.event-index in
    let inv = c.loop-event.invariant in
    record {
      so_far = never_back_more c.args.next c.loop-event.standing es i (Announce Handshake None) c.loop-event-test.true inv.so_far inv.stands (c.goes_on.ensures.exact.0 c.if-not-goes_on.false);
      stands = c.behind-standing.ensures.exact
          ∙ (ap (λ s. standing s (event_of (get_or es i (Announce Handshake None)) ∷ [])) inv.stands ∙ sym (standing_more es i (Announce Handshake None) c.loop-event-test.true));
      fits = c.behind-standing.ensures.fits i inv.fits;
    }
