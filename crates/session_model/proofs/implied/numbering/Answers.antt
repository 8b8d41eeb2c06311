use Rattle.std.proofs.Common.{◌≡◌, [], ◌∷◌, ◌++◌, None, option_to_list, sym, ap, ◌∙◌, append-nil}
use Rattle.session_model.specs.Events.{standing}
use Rattle.session_model.specs.Views.{event_of}
use Rattle.session_model.specs.declared.event.Announcer.TheVariants.{Handshake}
use Rattle.session_model.specs.declared.event.Event.TheVariants.{Announce}
use Rattle.session_model.proofs.Steps.{messages_more, standing_more}
use Rattle.session_model.proofs.implied.numbering.Goals as goal
use Rattle.session_model.proofs.implied.numbering.Goals.{in-Some+in_ok-push, in_default}

-- the message that `with_number` gave, if any, was pushed
pub loop-event-preserved : goal.loop-event-preserved
loop-event-preserved c =
    let es = c.args.events.now in
    let i = c.loop-event.event-index in
    let old = c.loop-event.messages.items in
    let inv = c.loop-event.invariant in
    let pushed : c.match-with_number.messages.items ≡ old ++ option_to_list c.with_number.result =
    elim c.match-with_number.branch [
      | in-Some+in_ok-push w ↦ ap (λ v. v.items) w.messages-is ∙ (w.in_ok-push.ensures.items ∙ ap (λ r. old ++ option_to_list r) (sym w.in-Some.is))
      | in_default w ↦ ap (λ v. v.items) w.messages-is ∙ (sym (append-nil old) ∙ ap (λ r. old ++ option_to_list r) (sym w.in_default.is))
    ] in
    record {
      so_far = messages_more es i (Announce Handshake None) c.loop-event.standing old c.match-with_number.messages.items c.with_number.result c.loop-event-test.true
          inv.so_far inv.stands c.with_number.ensures.exact pushed;
      stands = c.behind-standing.ensures.exact
          ∙ (ap (λ s. standing s (event_of (lib.ListN.get_or es i (Announce Handshake None)) ∷ [])) inv.stands ∙ sym (standing_more es i (Announce Handshake None) c.loop-event-test.true));
      fits = c.behind-standing.ensures.fits i inv.fits;
    }
