-- What was counted of the records of an outbox, and which record may follow.
use Rattle.std.proofs.Common.{◌≡◌, ◌⊎◌, ℕ, ◌+◌, true, false, List, [], ◌∷◌, ◌++◌, length, refl, sym, ap, subst, ◌∙◌, arith, length-append, inl, inr, ⊎_elim}
use Rattle.std.proofs.lemmas.Bool.{cases_Bool, cases_eq}
use Rattle.std.specs.List.{AllByRecursion}
use Rattle.session_model.specs.Journal.{Entry, History, InOrder, entry, entries_of}
use Rattle.session_model.proofs.Lists.{all_append, all_second}
use Rattle.fixp_msgs.specs.Payload.{IsApplication}
use Rattle.jr_record.specs.declared.record.Record.{Record}
use Rattle.jr_record.specs.declared.record.Record.TheVariants as kinds
use Rattle.jr_record.specs.Records.{IsSender}
use Rattle.jr_boxes.specs.declared.tally.Tally.{Tally}
use Rattle.jr_boxes.specs.Outboxes.{record_of, records_of_history, IsOutbox, with_entry, with_mark}
use Rattle.jr_boxes.specs.Tallies.{Tallies, Counted, MayFollow, HasTaken, CountsEntry, count_in}
use Rattle.jr_boxes.proofs.Histories.{records_of, unmarked, marked, entry_joins, mark_joins, entries_of-same, entries_of-other, order_goes_on, last_number, same_entries, no_finish, EndsWith, ends_with, same_end}

-- an entry that may follow, behind a history that has no mark
pub outbox_entry : (h : History) (e : Entry) → h.finished ≡ false → IsOutbox (records_of_history h) h → IsSender e.sender → IsApplication e.payload
    → e.own_number ≡ length (entries_of h.made e.sender) + 1 → IsOutbox (records_of_history (with_entry h e)) (with_entry h e)
outbox_entry h e open_is is sender payload next = record {
  spelled = refl;
  senders = all_append (λ (d : Entry). IsSender d.sender) h.made (e ∷ []) is.senders (sender, tt);
  payloads = all_append (λ (d : Entry). IsApplication d.payload) h.made (e ∷ []) is.payloads (payload, tt);
  in_order = order_goes_on h.made e is.in_order next;
}

pub outbox_mark : (h : History) → IsOutbox (records_of_history h) h → IsOutbox (records_of_history (with_mark h)) (with_mark h)
outbox_mark h is = record { spelled = refl; senders = is.senders; payloads = is.payloads; in_order = is.in_order }

-- the counts of one more entry, and of the mark
pub tallies_entry : (old new : Tally) (h : History) (e : Entry) → IsSender e.sender → CountsEntry old new e.sender → Tallies old h → Tallies new (with_entry h e)
tallies_entry old new h e sender more t = record {
  all = omega (arith, more.all, t.all, length-append h.made (e ∷ []));
  each = λ s is. ⊎_elim
      (λ same. subst (λ (k : ℕ). count_in new k ≡ length (entries_of (h.made ++ e ∷ []) k)) (sym same)
      (let there = t.each e.sender sender in
      let longer : length (entries_of (h.made ++ e ∷ []) e.sender) ≡ length (entries_of h.made e.sender) + 1 = ap length (entries_of-same h.made e) ∙ length-append (entries_of h.made e.sender) (e ∷ []) in
      omega (arith, more.its, there, longer)))
      (λ other. more.others s is other ∙ t.each s is ∙ ap length (sym (entries_of-other h.made e s (λ f. other (sym f)))))
      (cases_eq s e.sender);
  mark = more.mark ∙ t.mark;
}

pub tallies_mark : (t : Tally) (h : History) → Tallies t h → Tallies (record t { closed = true }) (with_mark h)
tallies_mark t h is = record { all = is.all; each = is.each; mark = refl }

-- a record that may follow is counted
pub counted_more : (records : List Record) (old new : Tally) (r : Record) → Counted records old → MayFollow old r → HasTaken old new r → Counted (records ++ r ∷ []) new
counted_more records old new (kinds.Entry sender k payload) c may taken =
    let e : Entry = record { sender = sender; own_number = k; payload = payload } in
    let open_is : c.history.finished ≡ false = sym c.tallied.mark ∙ may.0 in
    let same : Counted (records_of_history c.history) old = record { history = c.history; outbox = record { spelled = refl; senders = c.outbox.senders; payloads = c.outbox.payloads; in_order = c.outbox.in_order }; tallied = c.tallied } in
    let next : k ≡ length (entries_of c.history.made sender) + 1 = may.2 ∙ ap (λ (n : ℕ). n + 1) (c.tallied.each sender may.1) in
    let is = outbox_entry c.history e open_is same.outbox may.1 may.3 next in
    record {
      history = with_entry c.history e;
      outbox = record {
        spelled = ap (λ (rs : List Record). rs ++ record_of (entry e) ∷ []) c.outbox.spelled ∙ sym (entry_joins c.history e open_is);
        senders = is.senders;
        payloads = is.payloads;
        in_order = is.in_order;
      };
      tallied = tallies_entry old new c.history e may.1 taken c.tallied;
    }
counted_more records old new (kinds.Apply _ _) c may taken = absurd may
counted_more records old new (kinds.Skip _ _) c may taken = absurd may
counted_more records old new kinds.Negotiated c may taken = absurd may
counted_more records old new (kinds.PeerFinished _) c may taken = absurd may
counted_more records old new kinds.Finish c may taken =
    let open_is : c.history.finished ≡ false = sym c.tallied.mark ∙ may in
    record {
      history = with_mark c.history;
      outbox = record {
        spelled = ap (λ (rs : List Record). rs ++ kinds.Finish ∷ []) c.outbox.spelled ∙ sym (mark_joins c.history open_is);
        senders = c.outbox.senders;
        payloads = c.outbox.payloads;
        in_order = c.outbox.in_order;
      };
      tallied = subst (λ (t : Tally). Tallies t (with_mark c.history)) (sym taken) (tallies_mark old c.history c.tallied);
    }

-- records that are those of some entries have no mark
open_before : (records : List Record) (es : List Entry) (c : History) → IsOutbox records c → records ≡ records_of es → c.finished ≡ false
open_before records es c is spelled = by_mark (cases_Bool c.finished)
  where
    by_mark : (c.finished ≡ true) ⊎ (c.finished ≡ false) → c.finished ≡ false
    by_mark (inl closed) = absurd (no_finish es (records_of c.made) (sym (marked c closed) ∙ sym is.spelled ∙ spelled))
    by_mark (inr open_is) = open_is

-- and a record with which an outbox goes on may follow
pub follows : (records : List Record) (t : Tally) (r : Record) (h : History) → Counted records t → IsOutbox (records ++ r ∷ []) h → MayFollow t r
follows records t r h c is = by_mark (cases_Bool h.finished)
  where
    as_entry : EndsWith h.made records r → MayFollow t r
    as_entry w =
        let open_is : c.history.finished ≡ false = open_before records w.before c.history c.outbox w.spelled in
        let same : c.history.made ≡ w.before = same_entries c.history.made w.before (sym (unmarked c.history open_is) ∙ sym c.outbox.spelled ∙ w.spelled) in
        let order : InOrder (w.before ++ w.last ∷ []) = subst InOrder w.whole is.in_order in
        let senders : AllByRecursion (λ (d : Entry). IsSender d.sender) (w.before ++ w.last ∷ []) = subst (AllByRecursion (λ (d : Entry). IsSender d.sender)) w.whole is.senders in
        let payloads : AllByRecursion (λ (d : Entry). IsApplication d.payload) (w.before ++ w.last ∷ []) = subst (AllByRecursion (λ (d : Entry). IsApplication d.payload)) w.whole is.payloads in
        let sender : IsSender w.last.sender = (all_second (λ (d : Entry). IsSender d.sender) w.before (w.last ∷ []) senders).0 in
        let payload : IsApplication w.last.payload = (all_second (λ (d : Entry). IsApplication d.payload) w.before (w.last ∷ []) payloads).0 in
        let counted : count_in t w.last.sender ≡ length (entries_of w.before w.last.sender) =
        c.tallied.each w.last.sender sender ∙ ap (λ (es : List Entry). length (entries_of es w.last.sender)) same in
        subst (MayFollow t) (sym w.is)
        (c.tallied.mark ∙ open_is, sender, last_number w.before w.last order ∙ ap (λ (n : ℕ). n + 1) (sym counted), payload)

    by_mark : (h.finished ≡ true) ⊎ (h.finished ≡ false) → MayFollow t r
    by_mark (inl closed) =
        let ends = same_end records (records_of h.made) r kinds.Finish (is.spelled ∙ marked h closed) in
        let open_is : c.history.finished ≡ false = open_before records h.made c.history c.outbox ends.0 in
        subst (MayFollow t) (sym ends.1) (c.tallied.mark ∙ open_is)
    by_mark (inr open_is) = as_entry (ends_with h.made records r (is.spelled ∙ unmarked h open_is))
