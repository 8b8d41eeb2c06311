-- What a failed call may leave: all that it tried, or none of it.
use Rattle.std.proofs.Common.{◌≡◌, ◌⊎◌, inl, inr, ⊎_elim, ◌≤◌, List, [], ◌∷◌, ◌++◌, map, length, Option, Some, None, refl, sym, ap, ◌∙◌, arith, append-nil}
use Rattle.std.proofs.lemmas.List.{length-map}
use Rattle.std.specs.Prelude.{IsSomeAnd}
use mathlib.Core.List.{IsPrefix}
use Rattle.session_model.specs.Inbox.{InboxRecord}
use Rattle.session_model.specs.Lives.{IsImage}
use Rattle.jr_boxes.specs.Inboxes.{record_of}
use Rattle.jr_dated.specs.declared.journal.Journal.{Ghosts}
use Rattle.jr_dated.specs.Dated.{Dated}
use Rattle.jr_kept.specs.declared.inbox.Inbox.{Inbox}
use Rattle.jr_kept.specs.Inbox.{HoldsBox, HoldsEitherBox}
use Rattle.jr_kept.proofs.Held.{either_holds}

kept_none : (kept : List Dated) → IsPrefix kept [] → kept ≡ []
kept_none [] p = refl
kept_none (d ∷ kept) p = absurd (cc (p.1))

kept_one : (kept : List Dated) (d : Dated) → IsPrefix kept (d ∷ []) → (kept ≡ []) ⊎ (kept ≡ d ∷ [])
kept_one [] d p = inl refl
kept_one (x ∷ []) d p = inr (cc (p.1))
kept_one (x ∷ y ∷ kept) d p = absurd (cc (p.1))

-- of one record or none a beginning is all or nothing
either_late : (closing late i : List Dated) → length late ≤ 1 → IsImage closing late i → (i ≡ closing) ⊎ (i ≡ closing ++ late)
either_late closing [] i few is = inl (is.holds ∙ (ap (λ (kept : List Dated). closing ++ kept) (kept_none is.kept is.beginning) ∙ append-nil closing))
either_late closing (d ∷ []) i few is =
    ⊎_elim (λ none. inl (is.holds ∙ (ap (λ (kept : List Dated). closing ++ kept) none ∙ append-nil closing))) (λ one. inr (is.holds ∙ ap (λ (kept : List Dated). closing ++ kept) one))
    (kept_one is.kept d is.beginning)
either_late closing (d ∷ e ∷ late) i few is = absurd (omega (arith, few))

either_if : (closing late : List Dated) (o : Option (List Dated)) → length late ≤ 1 → IsSomeAnd o (IsImage closing late) → IsSomeAnd o (λ (i : List Dated). (i ≡ closing) ⊎ (i ≡ closing ++ late))
either_if closing late None few is = absurd is
either_if closing late (Some i) few is = either_late closing late i few is

module _ {J : Type 0} {G : Ghosts J} where
  pub few_either : (box : Inbox J G) (i refused : List InboxRecord) → length refused ≤ 1 → HoldsBox box i refused → HoldsEitherBox box i refused
  few_either box i refused few h =
      let late : length h.late ≤ 1 = omega (arith, few, sym (length-map h.late (λ (d : Dated). d.what)) ∙ ap length h.bare_late, length-map refused record_of) in
      record {
        dated = h.dated;
        late = h.late;
        bare = h.bare;
        bare_late = h.bare_late;
        journal = record { stands_for = h.journal.stands_for; images = λ image left. either_if h.dated h.late image late (h.journal.images image left) };
        inbox = h.inbox;
        noticed = h.noticed;
      }

  pub one_either : (box : Inbox J G) (i : List InboxRecord) (r : InboxRecord) → HoldsBox box i (r ∷ []) → HoldsEitherBox box i (r ∷ [])
  one_either box i r h = few_either box i (r ∷ []) (omega arith) h

  pub none_either : (box : Inbox J G) (i : List InboxRecord) → HoldsBox box i [] → HoldsEitherBox box i []
  none_either box i h = few_either box i [] (omega arith) h

  -- all or nothing is a beginning
  pub either_box : (box : Inbox J G) (i refused : List InboxRecord) → HoldsEitherBox box i refused → HoldsBox box i refused
  either_box box i refused h = record {
    dated = h.dated;
    late = h.late;
    bare = h.bare;
    bare_late = h.bare_late;
    journal = either_holds G.stands G.leaves box.journal h.dated h.late h.journal;
    inbox = h.inbox;
    noticed = h.noticed;
  }
