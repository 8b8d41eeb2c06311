use Rattle.std.proofs.Common.{◌≡◌, [], ◌∷◌, ◌++◌, None, get_or, option_to_list, sym, ap, subst, ◌∙◌, append-nil}
use Rattle.session_model.specs.Inbox.{next_number}
use Rattle.session_model.specs.Events.{standing}
use Rattle.session_model.specs.Views.{event_of, events_of, records_of, MayGrow}
use Rattle.session_model.specs.declared.event.Announcer.TheVariants.{Handshake}
use Rattle.session_model.specs.declared.event.Event.TheVariants.{Announce}
use Rattle.session_model.proofs.Steps.{standing_more}
use Rattle.session_model.proofs.Growing.{may_grow_here, grown_more}
use Rattle.session_model.proofs.grown.Inbox.grow.Goals as goal
use Rattle.session_model.proofs.grown.Inbox.grow.Goals.{in-Some+in_ok-push, in_default}

-- what was asked of all events is asked of this one
pub record_for-requires-clause-forward : goal.record_for-requires-clause-forward
record_for-requires-clause-forward c =
    let es = c.args.events.now in
    let i = c.loop-event.event-index in
    let e = event_of (get_or es i (Announce Handshake None)) in
    let old = c.args.self.now in
    let now = c.loop-event.self in
    let inv = c.loop-event.invariant in
    let asked : MayGrow c.args.flow (next_number (records_of old.records.items)) None (events_of es) =
    subst (λ n. MayGrow c.args.flow n None (events_of es)) old.waits c.requires in
    let here = may_grow_here c.args.flow (records_of old.records.items) (records_of now.records.items) es i (Announce Handshake None) c.loop-event-test.true asked inv.grown in
    subst (λ n. MayGrow c.args.flow n c.loop-event.standing (e ∷ [])) (sym now.waits)
    (subst (λ s. MayGrow c.args.flow (next_number (records_of now.records.items)) s (e ∷ [])) (sym inv.stands) here)

-- the record that `record_for` gave, if any, was pushed
pub loop-event-preserved : goal.loop-event-preserved
loop-event-preserved c =
    let es = c.args.events.now in
    let i = c.loop-event.event-index in
    let now = c.loop-event.self in
    let inv = c.loop-event.invariant in
    let pushed : c.match-record_for.self.records.items ≡ now.records.items ++ option_to_list c.record_for.result =
    elim c.match-record_for.branch [
      | in-Some+in_ok-push w ↦ ap (λ s. s.records.items) w.self-is ∙ (w.in_ok-push.ensures.ok ∙ ap (λ r. now.records.items ++ option_to_list r) (sym w.in-Some.is))
      | in_default w ↦ ap (λ s. s.records.items) w.self-is ∙ (sym (append-nil now.records.items) ∙ ap (λ r. now.records.items ++ option_to_list r) (sym w.in_default.is))
    ] in
    record {
      grown = grown_more c.args.flow (records_of c.args.self.now.records.items) now.records.items c.match-record_for.self.records.items c.record_for.result es i (Announce Handshake None)
          c.loop-event.standing c.loop-event-test.true inv.grown inv.stands (c.record_for.ensures.grown (records_of now.records.items) (sym now.waits)) pushed;
      stands = c.behind-standing.ensures.exact
          ∙ (ap (λ s. standing s (event_of (get_or es i (Announce Handshake None)) ∷ [])) inv.stands ∙ sym (standing_more es i (Announce Handshake None) c.loop-event-test.true));
      fits = c.behind-standing.ensures.fits i inv.fits;
    }
