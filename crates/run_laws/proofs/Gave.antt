-- What the outbox holds of its senders behind any runs of one end, whatever INPUT each had.
use Rattle.std.proofs.Common.{◌≡◌, ◌⊎◌, inl, inr, ⊎_elim, ℕ, zero, suc, ◌+◌, ◌<◌, ◌≤◌, true, false, true≢false, Contains, List, [], ◌∷◌, ◌++◌, map, length, drop, slice_get, Option, Some, None, IsSomeAnd, arith, refl, sym, ap, subst, ◌∙◌, append_assoc}
use Rattle.std.specs.Prelude.{IsTrue, is_some}
use Rattle.std.proofs.lemmas.Bool.{cases_Bool}
use Rattle.std.proofs.lemmas.Option.{none-some}
use Rattle.std.proofs.lemmas.List.Elements.{Contains-append_right}
use mathlib.Core.List.{IsPrefix}
use Rattle.session_model.specs.Journal.{Entry, OutboxRecord, entries, History, is_finished, history_of, InOrder}
use Rattle.session_model.specs.Plans.{sent_by}
use Rattle.session_model.specs.Lives.{IsImage}
use Rattle.session_model.proofs.Lists.{prefix_self, prefix_trans}
use Rattle.session_model.proofs.Journals.{prefix_entries}
use Rattle.fixp_shake.specs.declared.config.Role.{Role}
use Rattle.plan_text.specs.Plans.{HasPlans}
use Rattle.plan_outbox.specs.Behind.{GoesOnFrom}
use Rattle.jr_dated.specs.declared.journal.Journal.{Ghosts}
use Rattle.cmd_session.specs.Journals.{IsJournal, Leaves}
use Rattle.cmd_session.proofs.Verdicts.{at_most_one_verdict}
use Rattle.jr_boxes.specs.Outboxes.{record_of, outbox_of, records_of_history}
use Rattle.life_laws.specs.Plans.{plan_in, KeepsPlans}
use Rattle.life_laws.proofs.Submitting.{never_waits, plans_kept}
use Rattle.life_laws.proofs.Outboxes.{entries-outbox_of}
use Rattle.cmd_session.specs.Lived.{IsKept}
use Rattle.cmd_session.specs.Outsides.{Sees}
use Rattle.run_laws.specs.Several.{Run, IsEmptyJournal, IsAt, RunsOver}
use Rattle.run_laws.specs.Senders.{HasNoDesks, AllSent, SomeSent, GivesAt, SomeGave, HoldsGiven, TellsInput, InputsHold}
use Rattle.cmd_session.proofs.Histories.{out_tells}
use Rattle.run_laws.proofs.Refusing.{some_of}
use Rattle.run_laws.proofs.Telling.{same_outbox, same_image}
use Rattle.run_laws.proofs.Ordered.{begins_within, order_of_first, history_of-records}
use Rattle.run_laws.proofs.Sending.{prefix_sent}
use Rattle.run_laws.proofs.Submitted.{opening_closing}
use Rattle.run_laws.proofs.Merely.{image_left}
use Rattle.run_laws.proofs.Ways.{Ways, ways_of}
use Rattle.run_laws.proofs.Chaining.{told_was, kept_was}

-- what stands at a place of a beginning stands there in all
pub at_prefix : {A : Type 0} (xs ys : List A) → IsPrefix xs ys → (k : ℕ) (x : A) → slice_get xs k ≡ Some x → slice_get ys k ≡ Some x
at_prefix [] ys p k x e = absurd (none-some x e)
at_prefix (y ∷ xs) [] p k x e = let d = p.1 in absurd cc
at_prefix (y ∷ xs) (z ∷ ys) p zero x e = let d = p.1 in let heads : z ≡ y = cc in ap (λ w. Some w) heads ∙ e
at_prefix (y ∷ xs) (z ∷ ys) p (suc k) x e = let d = p.1 in at_prefix xs ys (p.0, cc) k x e

-- what stands behind the first so many
at_drop : (n : ℕ) (xs : List (List ℕ)) (k j : ℕ) (x : List ℕ) → j ≡ n + k → slice_get (drop n xs) k ≡ Some x → slice_get xs j ≡ Some x
at_drop zero xs k j x is e = subst (λ (i : ℕ). slice_get xs i ≡ Some x) (omega (arith, is)) e
at_drop (suc n) [] k j x is e = absurd (none-some x e)
at_drop (suc n) (y ∷ xs) k zero x is e = absurd (omega (arith, is))
at_drop (suc n) (y ∷ xs) k (suc j) x is e = at_drop n xs k j x (omega (arith, is)) e

-- what stands in the first of two lists, or in the second
at_append : (xs ys : List (List ℕ)) (k : ℕ) (x : List ℕ) → slice_get (xs ++ ys) k ≡ Some x → (slice_get xs k ≡ Some x) ⊎ ((j : ℕ) × (k ≡ length xs + j) × (slice_get ys j ≡ Some x))
at_append [] ys k x e = inr (k, omega arith, e)
at_append (z ∷ xs) ys zero x e = inl e
at_append (z ∷ xs) ys (suc k) x e = ⊎_elim
    (λ (f : slice_get xs k ≡ Some x). inl f)
    (λ (f : (j : ℕ) × (k ≡ length xs + j) × (slice_get ys j ≡ Some x)). inr (f.0, omega (arith, f.1), f.2))
    (at_append xs ys k x e)

-- where a plan has at its places what was sent, and more behind it, what was sent and the plan behind so many covers the plan
covered : (a p : List (List ℕ)) → ((k : ℕ) (x : List ℕ) → slice_get p k ≡ Some x → (slice_get a k ≡ Some x) ⊎ (length a ≤ k)) → IsPrefix p (a ++ drop (length a) p)
covered [] p f = prefix_self p
covered (x ∷ a) [] f = ((x ∷ a) ++ drop (length (x ∷ a)) [], refl)
covered (x ∷ a) (y ∷ p) f =
    let heads : y ≡ x = ⊎_elim (λ (e : slice_get (x ∷ a) 0 ≡ Some y). cc) (λ (l : length (x ∷ a) ≤ 0). absurd (omega (arith, l))) (f 0 y refl) in
    let r = covered a p (λ k z e. ⊎_elim (λ (g : slice_get (x ∷ a) (suc k) ≡ Some z). inl g) (λ (l : length (x ∷ a) ≤ suc k). inr (omega (arith, l))) (f (suc k) z e)) in
    (r.0, ap (λ (w : List ℕ). w ∷ (p ++ r.0)) heads ∙ ap (λ (ws : List (List ℕ)). x ∷ ws) r.1)

-- plans that go on from a history without its finish, by their senders
goes_by : (plans : List (List (List ℕ))) (h : History) → GoesOnFrom plans h → h.finished ≡ false → (s k : ℕ) (x : List ℕ) → slice_get (plan_in plans s []) k ≡ Some x
    → (slice_get (sent_by h.made s) k ≡ Some x) ⊎ (length (sent_by h.made s) ≤ k)
goes_by plans h goes unmarked zero k x e = absurd (none-some x e)
goes_by plans h goes unmarked (suc i) k x e =
    let same : i + 1 ≡ suc i = omega arith in
    ⊎_elim
    (λ (f : slice_get (sent_by h.made (i + 1)) k ≡ Some x). inl (subst (λ (s : ℕ). slice_get (sent_by h.made s) k ≡ Some x) same f))
    (λ (f : (length (sent_by h.made (i + 1)) ≤ k) × (h.finished ≡ false)). inr (subst (λ (s : ℕ). length (sent_by h.made s) ≤ k) same f.0))
    (goes i k x e)

-- a text that is told
told_text : (o : Option (List ℕ)) → IsTrue (is_some o) → (text : List ℕ) × (o ≡ Some text)
told_text None is = absurd (true≢false (sym is))
told_text (Some text) is = (text, refl)

module _ {S K D N C J : Type 0} (G : Ghosts J) (sees : Sees S K D N C) (role : Role) (all : List (Run S K D N C)) (h : History) where
  -- what is so of the outbox between two runs
  record Gave (o : List OutboxRecord) : Type 0 where
    in_order : InOrder (entries o)
    given : (s place : ℕ) (payload : List ℕ) → slice_get (sent_by (entries o) s) place ≡ Some payload → SomeGave sees all s place payload
    finished : is_finished o ≡ true → SomeSent sees all h

  -- from some contents on, it stays so to the end
  record Stays (outboxes : List ℕ → Type 0) : Type 0 where
    opened : List OutboxRecord
    was : Leaves outboxes (Some (map record_of opened))
    begins : IsPrefix opened (outbox_of h)
    stays : Gave opened → Gave (outbox_of h)

  module _ (r : Run S K D N C) (outboxes : List ℕ → Type 0) (at : IsAt sees outboxes r.before.out_disk) (among : Contains all r) (config : IsSomeAnd (sees.left r.before.config) (HasNoDesks role)) (input : IsTrue (is_some (sees.left r.before.input)))
      (later : Stays (sees.may_leave r.after.out_disk)) where
    unlived : IsKept sees.told sees.may_leave r.before.out_disk r.after.out_disk → Stays outboxes
    unlived kept = record {
      opened = later.opened;
      was = kept_was sees outboxes r.before.out_disk r.after.out_disk (map record_of later.opened) at kept later.was;
      begins = later.begins;
      stays = later.stays;
    }

    module _ (plans : List (List (List ℕ))) (opening closing whole : History) (refused : List OutboxRecord) (text : List ℕ) (told : sees.left r.before.input ≡ Some text) (senders : ℕ) (has : HasPlans senders text plans)
        (goes_on : outbox_of closing ++ refused ≡ outbox_of whole) (order : InOrder whole.made) (kept : KeepsPlans plans opening whole) (goes : GoesOnFrom plans opening)
        (image : IsImage (outbox_of closing) refused later.opened) where
      found_within : IsPrefix later.opened (outbox_of whole)
      found_within = (
        image.beginning.0,
        ap (λ (rs : List OutboxRecord). rs ++ image.beginning.0) image.holds
            ∙ (append_assoc (outbox_of closing) image.kept image.beginning.0 ∙ (ap (λ (rs : List OutboxRecord). outbox_of closing ++ rs) image.beginning.1 ∙ goes_on)),
      )

      entries_within : IsPrefix (entries later.opened) whole.made
      entries_within = subst (λ (es : List Entry). IsPrefix (entries later.opened) es) (entries-outbox_of whole) (prefix_entries later.opened (outbox_of whole) found_within)

      begun : Gave (outbox_of opening) → (s place : ℕ) (payload : List ℕ) → slice_get (sent_by opening.made s) place ≡ Some payload → SomeGave sees all s place payload
      begun was s place payload there = was.given s place payload (subst (λ (es : List Entry). slice_get (sent_by es s) place ≡ Some payload) (sym (entries-outbox_of opening)) there)

      here : (s place : ℕ) (payload : List ℕ) → slice_get (plan_in plans s []) place ≡ Some payload → SomeGave sees all s place payload
      here s place payload there =
          record { run = r; among = among; gave = subst (λ (o : Option (List ℕ)). IsSomeAnd o (GivesAt s place payload)) (sym told) (record { senders = senders; plans = plans; has = has; at = there }) }

      whole_given : Gave (outbox_of opening) → (s place : ℕ) (payload : List ℕ) → slice_get (sent_by whole.made s) place ≡ Some payload → SomeGave sees all s place payload
      whole_given was s place payload there =
          let c = kept.each s in
          let before : List (List ℕ) = sent_by opening.made s in
          ⊎_elim
          (λ (f : slice_get before place ≡ Some payload). begun was s place payload f)
          (λ (f : (j : ℕ) × (place ≡ length before + j) × (slice_get c.more j ≡ Some payload)).
          here s place payload (at_drop (length before) (plan_in plans s []) f.0 place payload f.1 (at_prefix c.more (drop (length before) (plan_in plans s [])) c.planned f.0 payload f.2)))
          (at_append before c.more place payload (subst (λ (xs : List (List ℕ)). slice_get xs place ≡ Some payload) c.behind there))

      -- where it is marked now, all of it is there
      is_whole : is_finished later.opened ≡ true → history_of later.opened ≡ whole
      is_whole marked = (begins_within later.opened (outbox_of whole) whole found_within (prefix_self (outbox_of whole))).alone marked ∙ history_of-records whole

      newly_done : opening.finished ≡ false → is_finished later.opened ≡ true → SomeSent sees all h
      newly_done unmarked marked =
          let same : history_of later.opened ≡ whole = is_whole marked in
          let done = kept.done unmarked (sym (ap (λ (x : History). x.finished) same) ∙ marked) in
          let all_of : (s : ℕ) → IsPrefix (plan_in plans s []) (sent_by h.made s) =
          λ s. prefix_trans (plan_in plans s []) (sent_by whole.made s) (sent_by h.made s)
          (subst (λ (xs : List (List ℕ)). IsPrefix (plan_in plans s []) xs) (sym (done s).behind) (covered (sent_by opening.made s) (plan_in plans s []) (goes_by plans opening goes unmarked s)))
          (prefix_sent whole.made h.made s (subst (λ (x : History). IsPrefix x.made h.made) same
          (subst (λ (es : List Entry). IsPrefix (entries later.opened) es) (entries-outbox_of h) (prefix_entries later.opened (outbox_of h) later.begins)))) in
          record { run = r; among = among; all = subst (λ (o : Option (List ℕ)). IsSomeAnd o (AllSent h)) (sym told) (record { senders = senders; plans = plans; has = has; sent = all_of }) }

      was_done : Gave (outbox_of opening) → opening.finished ≡ true → SomeSent sees all h
      was_done was marked = was.finished (ap (λ (x : History). x.finished) (history_of-records opening) ∙ marked)

      gave_now : Gave (outbox_of opening) → Gave later.opened
      gave_now was = record {
        in_order = order_of_first (entries later.opened) whole.made entries_within order;
        given = λ s place payload there.
            whole_given was s place payload (at_prefix (sent_by (entries later.opened) s) (sent_by whole.made s) (prefix_sent (entries later.opened) whole.made s entries_within) place payload there);
        finished = λ marked. ⊎_elim (λ (is : opening.finished ≡ true). was_done was is) (λ (is : opening.finished ≡ false). newly_done is marked) (cases_Bool opening.finished);
      }

    by_way : Ways G sees role r.before r.after r.status → Stays outboxes
    by_way (inl kept) = unlived kept.outbox
    by_way (inr (inr by)) =
        let t = some_of (sees.left r.before.config) (HasNoDesks role) config in
        let none : by.configuration.trade.desks ≡ 0 = t.2 by.configuration (by.spelled t.0 t.1) in
        let some : 0 < by.configuration.trade.desks = by.some in
        absurd (omega (arith, none, some))
    by_way (inr (inl by)) =
        let v = by.lived.over in
        let t = told_text (sees.left r.before.input) input in
        let found = some_of (sees.told r.before.out_disk) outboxes at.tells in
        let senders = by.configuration.trade.senders in
        let has : HasPlans senders t.0 by.plans = (by.planned t.0 t.1).1 in
        let image : IsImage (outbox_of v.closing) v.lost later.opened =
        same_image record_of out_tells (outbox_of v.closing) v.lost later.opened
        (image_left (sees.may_leave r.after.out_disk) (records_of_history v.closing) (map record_of v.lost) (map record_of later.opened) v.out_left later.was) in
        record {
          opened = outbox_of v.opening;
          was = told_was sees outboxes r.before.out_disk (records_of_history v.opening) at v.out_opened;
          begins = prefix_trans (outbox_of v.opening) (outbox_of v.closing) (outbox_of h) (opening_closing v)
              (prefix_trans (outbox_of v.closing) later.opened (outbox_of h) (image.kept, sym image.holds) later.begins);
          stays = λ was. later.stays (gave_now by.plans v.opening v.closing v.whole v.lost t.0 t.1 senders has v.goes_on v.in_order (plans_kept by.plans v.opening v.closing v.whole v.lost v.inbox _ (v.planned never_waits))
              (by.goes_on found.0 found.1 v.opening (v.out_opened found.0 found.1)) image was);
        }

  stays_over : (runs : List (Run S K D N C)) (outboxes inboxes : List ℕ → Type 0) (outbox inbox : List ℕ) → ((r : Run S K D N C) → Contains runs r → Contains all r) → IsJournal outbox (records_of_history h)
      → RunsOver sees (TellsInput G sees role) runs outboxes inboxes outbox inbox → Stays outboxes
  stays_over [] outboxes inboxes outbox inbox among is over = record { opened = outbox_of h; was = (outbox, over.0, is); begins = prefix_self (outbox_of h); stays = λ was. was }
  stays_over (r ∷ later) outboxes inboxes outbox inbox among is over =
      by_way r outboxes over.0 (among r (0, omega arith, refl)) over.2.config over.2.input
      (stays_over later (sees.may_leave r.after.out_disk) (sees.may_leave r.after.in_disk) outbox inbox (λ q k. among q (Contains-append_right (r ∷ []) later q k)) is over.3)
      (ways_of G sees role r.before r.after r.status over.2.steps)

  nothing_given : Gave []
  nothing_given = record { in_order = λ s. refl; given = λ s place payload there. absurd (none-some payload there); finished = λ marked. absurd (true≢false (sym marked)) }

  holds_given : (outbox inbox : List ℕ) → RunsOver sees (TellsInput G sees role) all IsEmptyJournal IsEmptyJournal outbox inbox → IsJournal outbox (records_of_history h) → HoldsGiven sees all h
  holds_given outbox inbox over is =
      let x : Stays IsEmptyJournal = stays_over all IsEmptyJournal IsEmptyJournal outbox inbox (λ r k. k) is over in
      let none : [] ≡ x.opened = same_outbox [] x.opened (at_most_one_verdict.one_list x.was.0 [] (map record_of x.opened) x.was.1 x.was.2) in
      let end : Gave (outbox_of h) = x.stays (subst Gave none nothing_given) in
      record {
        in_order = subst InOrder (entries-outbox_of h) end.in_order;
        given = λ s place payload there. end.given s place payload (subst (λ (es : List Entry). slice_get (sent_by es s) place ≡ Some payload) (sym (entries-outbox_of h)) there);
        finished = λ marked. end.finished (ap (λ (x : History). x.finished) (history_of-records h) ∙ marked);
      }

pub inputs_hold : {S K D N C J : Type 0} (G : Ghosts J) (sees : Sees S K D N C) → InputsHold G sees
inputs_hold G sees role runs outbox inbox h over is = holds_given G sees role runs h outbox inbox over is
