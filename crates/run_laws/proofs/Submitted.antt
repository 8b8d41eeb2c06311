-- What the outbox holds of its senders behind any runs of one end.
use Rattle.std.proofs.Common.{◌≡◌, inl, inr, ⊎_elim, ℕ, suc, ◌<◌, true, false, true≢false, Contains, List, [], ◌∷◌, ◌++◌, map, length, drop, Option, Some, IsSomeAnd, Result, zero, arith, refl, sym, ap, subst, ◌∙◌, append_assoc}
use Rattle.std.proofs.lemmas.Bool.{cases_Bool}
use Rattle.std.proofs.lemmas.List.Elements.{Contains-append_right}
use mathlib.Core.List.{IsPrefix}
use Rattle.session_model.specs.Journal.{Entry, OutboxRecord, entries, History, is_finished, history_of, InOrder}
use Rattle.session_model.specs.Plans.{sent_by, Continues}
use Rattle.session_model.specs.Lives.{IsImage}
use Rattle.session_model.proofs.Lists.{prefix_self, prefix_trans, prefix_continued}
use Rattle.session_model.proofs.Journals.{prefix_entries}
use Rattle.fixp_shake.specs.declared.config.EndConfig.{EndConfig}
use Rattle.fixp_shake.specs.declared.config.Role.{Role}
use Rattle.plan_text.specs.Plans.{HasPlans}
use Rattle.jr_dated.specs.declared.journal.Journal.{Ghosts}
use Rattle.jr_kept.specs.declared.inbox.Inbox.{Inbox}
use Rattle.conn_door.specs.declared.answer.ServeFault.{ServeFault}
use Rattle.cmd_session.specs.declared.outside.SessionOutside.{SessionOutside}
use Rattle.cmd_session.specs.Journals.{IsJournal, Leaves}
use Rattle.cmd_session.proofs.Verdicts.{at_most_one_verdict}
use Rattle.jr_boxes.specs.Outboxes.{record_of, outbox_of, records_of_history}
use Rattle.life_laws.specs.Plans.{plan_in, KeepsPlans, Senders}
use Rattle.life_laws.proofs.Submitting.{never_waits, plans_kept}
use Rattle.life_laws.proofs.Outboxes.{entries-outbox_of, outbox_begins}
use Rattle.cmd_session.specs.Lived.{IsKept, LivedOver}
use Rattle.cmd_session.specs.Outsides.{Sees}
use Rattle.run_laws.specs.Several.{Run, IsEmptyJournal, IsAt, RunsOver}
use Rattle.run_laws.specs.Senders.{HasNoDesks, IsPartOf, AllSent, SomeSent, HoldsSent, SendsPart, SendersHold}
use Rattle.run_laws.proofs.Refusing.{some_of}
use Rattle.cmd_session.proofs.Histories.{out_tells}
use Rattle.run_laws.proofs.Telling.{same_outbox, same_image}
use Rattle.run_laws.proofs.Ordered.{begins_within, order_of_first, history_of-records}
use Rattle.run_laws.proofs.Sending.{prefix_sent}
use Rattle.run_laws.proofs.Merely.{image_left}
use Rattle.run_laws.proofs.Ways.{Ways, ways_of}
use Rattle.run_laws.proofs.Chaining.{told_was, kept_was}

prefix_drop : {A : Type 0} (n : ℕ) (xs ys : List A) → IsPrefix xs ys → IsPrefix (drop n xs) (drop n ys)
prefix_drop zero xs ys p = p
prefix_drop (suc n) [] ys p = (drop (suc n) ys, refl)
prefix_drop (suc n) (x ∷ xs) [] p = let e = p.1 in absurd cc
prefix_drop (suc n) (x ∷ xs) (y ∷ ys) p = let e = p.1 in prefix_drop n xs ys (p.0, cc)

-- of two beginnings of one list, the first with what the second has behind it covers the second
covers : {A : Type 0} (a p q : List A) → IsPrefix a q → IsPrefix p q → IsPrefix p (a ++ drop (length a) p)
covers [] p q x y = prefix_self p
covers (x ∷ a) [] q f g = ((x ∷ a) ++ drop (length (x ∷ a)) [], refl)
covers (x ∷ a) (y ∷ p) [] f g = let e = f.1 in absurd cc
covers (x ∷ a) (y ∷ p) (z ∷ q) f g =
    let e = f.1 in
    let d = g.1 in
    let heads : y ≡ x = cc in
    let r = covers a p q (f.0, cc) (g.0, cc) in
    (r.0, ap (λ w. w ∷ (p ++ r.0)) heads ∙ ap (λ ws. x ∷ ws) r.1)

-- what continues a beginning of the plan by a part of the plan is a beginning of the plan
pub continued : (plan whole before after : List (List ℕ)) → IsPrefix plan whole → IsPrefix before whole → Continues plan before after → IsPrefix after whole
continued plan whole before after part begun c =
    subst (λ (xs : List (List ℕ)). IsPrefix xs whole) (sym c.behind)
    (prefix_continued before c.more whole begun
    (prefix_trans c.more (drop (length before) plan) (drop (length before) whole) c.planned (prefix_drop (length before) plan whole part)))

-- a life only adds to its outbox
pub opening_closing : {J : Type 0} {G : Ghosts J} {S K D N C : Type 0} {sees : Sees S K D N C} {config : EndConfig} {senders : Senders} {before after : SessionOutside S K D N C} {old new : Inbox J G} {result : Result (Unit {0}) ServeFault}
    (v : LivedOver sees config senders before after old new result) → IsPrefix (outbox_of v.opening) (outbox_of v.closing)
opening_closing v = outbox_begins v.opening v.closing v.grows

module _ {S K D N C J : Type 0} (G : Ghosts J) (sees : Sees S K D N C) (role : Role) (plan : ℕ → List (List ℕ)) (all : List (Run S K D N C)) (h : History) where
  -- what is so of the outbox between two runs
  record Sent (o : List OutboxRecord) : Type 0 where
    in_order : InOrder (entries o)
    planned : (s : ℕ) → IsPrefix (sent_by (entries o) s) (plan s)
    finished : is_finished o ≡ true → SomeSent sees all h

  -- from some contents on, it stays so to the end
  record Stays (outboxes : List ℕ → Type 0) : Type 0 where
    opened : List OutboxRecord
    was : Leaves outboxes (Some (map record_of opened))
    begins : IsPrefix opened (outbox_of h)
    stays : Sent opened → Sent (outbox_of h)

  module _ (r : Run S K D N C) (outboxes : List ℕ → Type 0) (at : IsAt sees outboxes r.before.out_disk) (among : Contains all r) (config : IsSomeAnd (sees.left r.before.config) (HasNoDesks role)) (input : IsSomeAnd (sees.left r.before.input) (IsPartOf plan))
      (later : Stays (sees.may_leave r.after.out_disk)) where
    unlived : IsKept sees.told sees.may_leave r.before.out_disk r.after.out_disk → Stays outboxes
    unlived kept = record {
      opened = later.opened;
      was = kept_was sees outboxes r.before.out_disk r.after.out_disk (map record_of later.opened) at kept later.was;
      begins = later.begins;
      stays = later.stays;
    }

    module _ (plans : List (List (List ℕ))) (opening closing whole : History) (refused : List OutboxRecord) (text : List ℕ) (told : sees.left r.before.input ≡ Some text)
        (senders : ℕ) (has : HasPlans senders text plans) (part : (s : ℕ) → IsPrefix (plan_in plans s []) (plan s)) (goes_on : outbox_of closing ++ refused ≡ outbox_of whole) (order : InOrder whole.made)
        (kept : KeepsPlans plans opening whole) (image : IsImage (outbox_of closing) refused later.opened) where
      found_within : IsPrefix later.opened (outbox_of whole)
      found_within = (
        image.beginning.0,
        ap (λ (rs : List OutboxRecord). rs ++ image.beginning.0) image.holds
            ∙ (append_assoc (outbox_of closing) image.kept image.beginning.0 ∙ (ap (λ (rs : List OutboxRecord). outbox_of closing ++ rs) image.beginning.1 ∙ goes_on)),
      )

      entries_within : IsPrefix (entries later.opened) whole.made
      entries_within = subst (λ (es : List Entry). IsPrefix (entries later.opened) es) (entries-outbox_of whole) (prefix_entries later.opened (outbox_of whole) found_within)

      begun : Sent (outbox_of opening) → (s : ℕ) → IsPrefix (sent_by opening.made s) (plan s)
      begun was s = subst (λ (es : List Entry). IsPrefix (sent_by es s) (plan s)) (entries-outbox_of opening) (was.planned s)

      whole_planned : Sent (outbox_of opening) → (s : ℕ) → IsPrefix (sent_by whole.made s) (plan s)
      whole_planned was s = continued (plan_in plans s []) (plan s) (sent_by opening.made s) (sent_by whole.made s) (part s) (begun was s) (kept.each s)

      -- where it is marked now, all of it is there
      is_whole : is_finished later.opened ≡ true → history_of later.opened ≡ whole
      is_whole marked = (begins_within later.opened (outbox_of whole) whole found_within (prefix_self (outbox_of whole))).alone marked ∙ history_of-records whole

      newly_done : Sent (outbox_of opening) → opening.finished ≡ false → is_finished later.opened ≡ true → SomeSent sees all h
      newly_done was unmarked marked =
          let same : history_of later.opened ≡ whole = is_whole marked in
          let done = kept.done unmarked (sym (ap (λ (x : History). x.finished) same) ∙ marked) in
          let here : (s : ℕ) → IsPrefix (plan_in plans s []) (sent_by h.made s) =
          λ s. prefix_trans (plan_in plans s []) (sent_by whole.made s) (sent_by h.made s)
          (subst (λ (xs : List (List ℕ)). IsPrefix (plan_in plans s []) xs) (sym (done s).behind) (covers (sent_by opening.made s) (plan_in plans s []) (plan s) (begun was s) (part s)))
          (prefix_sent whole.made h.made s (subst (λ (x : History). IsPrefix x.made h.made) same
          (subst (λ (es : List Entry). IsPrefix (entries later.opened) es) (entries-outbox_of h) (prefix_entries later.opened (outbox_of h) later.begins)))) in
          record { run = r; among = among; all = subst (λ (o : Option (List ℕ)). IsSomeAnd o (AllSent h)) (sym told) (record { senders = senders; plans = plans; has = has; sent = here }) }

      was_done : Sent (outbox_of opening) → opening.finished ≡ true → SomeSent sees all h
      was_done was marked = was.finished (ap (λ (x : History). x.finished) (history_of-records opening) ∙ marked)

      sent_now : Sent (outbox_of opening) → Sent later.opened
      sent_now was = record {
        in_order = order_of_first (entries later.opened) whole.made entries_within order;
        planned = λ s. prefix_trans (sent_by (entries later.opened) s) (sent_by whole.made s) (plan s) (prefix_sent (entries later.opened) whole.made s entries_within) (whole_planned was s);
        finished = λ marked. ⊎_elim (λ (is : opening.finished ≡ true). was_done was is) (λ (is : opening.finished ≡ false). newly_done was is marked) (cases_Bool opening.finished);
      }

    by_way : Ways G sees role r.before r.after r.status → Stays outboxes
    by_way (inl kept) = unlived kept.outbox
    by_way (inr (inr by)) =
        let t = some_of (sees.left r.before.config) (HasNoDesks role) config in
        let none : by.configuration.trade.desks ≡ 0 = t.2 by.configuration (by.spelled t.0 t.1) in
        let some : 0 < by.configuration.trade.desks = by.some in
        absurd (omega (arith, none, some))
    by_way (inr (inl by)) =
        let v = by.lived.over in
        let t = some_of (sees.left r.before.input) (IsPartOf plan) input in
        let senders = by.configuration.trade.senders in
        let has : HasPlans senders t.0 by.plans = (by.planned t.0 t.1).1 in
        let image : IsImage (outbox_of v.closing) v.lost later.opened =
        same_image record_of out_tells (outbox_of v.closing) v.lost later.opened
        (image_left (sees.may_leave r.after.out_disk) (records_of_history v.closing) (map record_of v.lost) (map record_of later.opened) v.out_left later.was) in
        record {
          opened = outbox_of v.opening;
          was = told_was sees outboxes r.before.out_disk (records_of_history v.opening) at v.out_opened;
          begins = prefix_trans (outbox_of v.opening) (outbox_of v.closing) (outbox_of h) (opening_closing v)
              (prefix_trans (outbox_of v.closing) later.opened (outbox_of h) (image.kept, sym image.holds) later.begins);
          stays = λ was. later.stays (sent_now by.plans v.opening v.closing v.whole v.lost t.0 t.1 senders has (t.2 senders by.plans has) v.goes_on v.in_order (plans_kept by.plans v.opening v.closing v.whole v.lost v.inbox _ (v.planned never_waits)) image was);
        }

  stays_over : (runs : List (Run S K D N C)) (outboxes inboxes : List ℕ → Type 0) (outbox inbox : List ℕ) → ((r : Run S K D N C) → Contains runs r → Contains all r) → IsJournal outbox (records_of_history h)
      → RunsOver sees (SendsPart G sees role plan) runs outboxes inboxes outbox inbox → Stays outboxes
  stays_over [] outboxes inboxes outbox inbox among is over = record { opened = outbox_of h; was = (outbox, over.0, is); begins = prefix_self (outbox_of h); stays = λ was. was }
  stays_over (r ∷ later) outboxes inboxes outbox inbox among is over =
      by_way r outboxes over.0 (among r (0, omega arith, refl)) over.2.config over.2.input
      (stays_over later (sees.may_leave r.after.out_disk) (sees.may_leave r.after.in_disk) outbox inbox (λ q k. among q (Contains-append_right (r ∷ []) later q k)) is over.3)
      (ways_of G sees role r.before r.after r.status over.2.steps)

  nothing_sent : Sent []
  nothing_sent = record { in_order = λ s. refl; planned = λ s. (plan s, refl); finished = λ marked. absurd (true≢false (sym marked)) }

  holds_sent : (outbox inbox : List ℕ) → RunsOver sees (SendsPart G sees role plan) all IsEmptyJournal IsEmptyJournal outbox inbox → IsJournal outbox (records_of_history h) → HoldsSent sees plan all h
  holds_sent outbox inbox over is =
      let x : Stays IsEmptyJournal = stays_over all IsEmptyJournal IsEmptyJournal outbox inbox (λ r k. k) is over in
      let none : [] ≡ x.opened = same_outbox [] x.opened (at_most_one_verdict.one_list x.was.0 [] (map record_of x.opened) x.was.1 x.was.2) in
      let end : Sent (outbox_of h) = x.stays (subst Sent none nothing_sent) in
      record {
        in_order = subst InOrder (entries-outbox_of h) end.in_order;
        planned = λ s. subst (λ (es : List Entry). IsPrefix (sent_by es s) (plan s)) (entries-outbox_of h) (end.planned s);
        finished = λ marked. end.finished (ap (λ (x : History). x.finished) (history_of-records h) ∙ marked);
      }

pub senders_hold : {S K D N C J : Type 0} (G : Ghosts J) (sees : Sees S K D N C) → SendersHold G sees
senders_hold G sees role plan runs outbox inbox h over is = holds_sent G sees role plan runs h outbox inbox over is
