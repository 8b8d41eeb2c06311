use Rattle.std.proofs.Common.{[], ◌∷◌, None, get_or, sym, ap, ◌∙◌}
use Rattle.session_model.specs.Events.{standing}
use Rattle.session_model.specs.Views.{event_of, journal_of}
use Rattle.session_model.specs.declared.event.Announcer.TheVariants.{Handshake}
use Rattle.session_model.specs.declared.event.Event.TheVariants.{Announce}
use Rattle.session_model.proofs.Steps.{standing_more}
use Rattle.session_model.proofs.Growing.{true_more, true_here}
use Rattle.session_model.proofs.written.is_true.Goals as goal

pub returns-then-not-is_true_event : goal.returns-then-not-is_true_event
returns-then-not-is_true_event c =
    let i = c.loop-event.event-index in
    record {
      exact = (
        λ t. absurd (cc t),
        λ all. sym c.if-not-is_true_event.true ∙ c.is_true_event.ensures.exact.1
            (true_here (journal_of c.args.journal.now) c.loop-event.standing c.args.events.now i (Announce Handshake None) c.loop-event-test.true c.loop-event.invariant.stands all),
      );
    }

pub loop-event-preserved : goal.loop-event-preserved
loop-event-preserved c =
    let es = c.args.events.now in
    let i = c.loop-event.event-index in
    let inv = c.loop-event.invariant in
    record {
      so_far = true_more (journal_of c.args.journal.now) c.loop-event.standing es i (Announce Handshake None) c.loop-event-test.true inv.so_far inv.stands (c.is_true_event.ensures.exact.0 c.if-not-is_true_event.false);
      stands = c.behind-standing.ensures.exact
          ∙ (ap (λ s. standing s (event_of (get_or es i (Announce Handshake None)) ∷ [])) inv.stands ∙ sym (standing_more es i (Announce Handshake None) c.loop-event-test.true));
      fits = c.behind-standing.ensures.fits i inv.fits;
    }
