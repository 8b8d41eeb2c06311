-- The plans of a business over a life: those over what it answered are plans of senders, which do not look at what was applied.
use Rattle.std.proofs.Common.{◌≡◌, ◌⊎◌, inl, inr, ⊎_elim, ℕ, zero, suc, ◌+◌, ◌<◌, ◌≤◌, Bool, true, false, true≢false, List, [], ◌∷◌, ◌++◌, map, length, take, drop, slice_index_or, refl, sym, ap, subst, ◌∙◌, arith, append-nil, append_assoc, length-append, drop-drop}
use Rattle.std.proofs.lemmas.Bool.{cases_lt}
use Rattle.std.proofs.lemmas.List.{length-map, get_or_past}
use mathlib.Core.List.{IsPrefix}
use Rattle.session_model.specs.Journal.{Entry, History, OutboxRecord, entry, finish, counts_from, is_finished, history_of, entries, entries_of, BeginsHistory, InOrder}
use Rattle.session_model.specs.Inbox.{InboxRecord, applied, payloads_of, has_peer_finished}
use Rattle.session_model.specs.Plans.{GoesOn, sent_by, Continues, Completes, SendersDone}
use Rattle.session_model.specs.Lives.{Life, IsImage, KeepsOutbox}
use Rattle.session_model.proofs.Lists.{prefix_self, prefix_trans, prefix_continued, length-counts_from}
use Rattle.jr_boxes.specs.Outboxes.{outbox_of}
use Rattle.jr_kept.specs.Entries.{entries_made}
use Rattle.gate_senders.specs.Shown.{entries_after}
use Rattle.gate_turn.specs.Views.{Account, Part}
use Rattle.gate_turn.specs.Rule.{In}
use Rattle.gate_turn.specs.Steps.{Closed}
use Rattle.gate_turn.specs.Calls.{made_part}
use Rattle.gate_staff.specs.Sent.{entries_behind}
use Rattle.gate_staff.specs.Made as made
use Rattle.gate_staff.specs.Business as business
use Rattle.gate_staff.proofs.Making.{prefix_drop, prefix_whole}
use Rattle.conn_turns.proofs.Delivering.{applied_payloads}
use Rattle.conn_serve.specs.Answering.{messages_of}
use Rattle.life_laws.specs.Plans.{plan_in, AllMade, LosesOwn, PlansMade, KeepsPlans, LosesNext, plans_at}
use Rattle.gate_staff.specs.Made.{MadeOf, LosesMessages}
use Rattle.life_laws.proofs.Submitting.{plans_submitted}
use Rattle.life_laws.specs.AnsweredLives.{KeepsWhole}
use Rattle.life_laws.specs.Answered.{plans_over, answering_plan, answering, PassesOver, PassesAnswered, KeepsAnswers, AnswersOnBy, ContinuesGoesOn, ContinuesCompletes, AnsweringGoesOn, AnswersAreKept, AnswersKeepOutbox}
use Rattle.life_laws.proofs.Planned.{plans_are_kept}
use Rattle.life_laws.proofs.Lost.{plans_go_on}
use Rattle.life_laws.proofs.Outboxes.{history_of-outbox_of, entries-outbox_of, outbox_begins}

-- ---- what continues a plan, of a longer one

module _ (plan longer first second : List (List ℕ)) (p : IsPrefix plan longer) (c : Continues plan first second) where
  longer_too : IsPrefix c.more (drop (length first) longer)
  longer_too = prefix_trans c.more (drop (length first) plan) (drop (length first) longer) c.planned (prefix_drop (length first) plan longer p)

  left_then : drop (length second) longer ≡ drop (length c.more) (drop (length first) longer)
  left_then = ap (λ k. drop k longer) (ap length c.behind ∙ length-append first c.more) ∙ sym (drop-drop (length c.more) (length first) longer)

  joined : (more : List (List ℕ)) → second ++ more ≡ first ++ (c.more ++ more)
  joined more = ap (λ w. w ++ more) c.behind ∙ append_assoc first c.more more

  pub continues_longer : Continues longer first second
  continues_longer = record { more = c.more; behind = c.behind; planned = longer_too }

pub continues_goes_on : ContinuesGoesOn
continues_goes_on plan s earlier later first second third on begun c d =
    let p = on s earlier later begun in
    record {
      more = c.more ++ d.more;
      behind = d.behind ∙ joined (plan s earlier) (plan s later) first second p c d.more;
      planned = prefix_continued c.more d.more (drop (length first) (plan s later)) (longer_too (plan s earlier) (plan s later) first second p c)
          (d.planned.0, d.planned.1 ∙ left_then (plan s earlier) (plan s later) first second p c);
    }

pub continues_completes : ContinuesCompletes
continues_completes plan s earlier later first second third on begun c d =
    let p = on s earlier later begun in
    record {
      behind = d.behind ∙ (joined (plan s earlier) (plan s later) first second p c (drop (length second) (plan s later))
          ∙ ap (λ w. first ++ w) (ap (λ w. c.more ++ w) (left_then (plan s earlier) (plan s later) first second p c)
          ∙ prefix_whole c.more (drop (length first) (plan s later)) (longer_too (plan s earlier) (plan s later) first second p c)));
    }

-- ---- the plans of the senders, by their numbers

at_from : {X : Type 0} (f : ℕ → X) (n count k : ℕ) (d : X) → k < count → slice_index_or (map f (counts_from n count)) k d ≡ f (n + k)
at_from f n zero k d few = absurd (omega (arith, few))
at_from f n (suc count) zero d few = ap f (omega arith)
at_from f n (suc count) (suc k) d few = at_from f (n + 1) count k d (omega (arith, few)) ∙ ap f (omega arith)

pub length-over : (plan : ℕ → List (List ℕ) → List (List ℕ)) (count : ℕ) (messages : List (List ℕ)) → length (plans_over plan count messages) ≡ count
length-over plan count messages = length-map (counts_from 1 count) (λ (n : ℕ). plan n messages) ∙ length-counts_from 1 count

pub plan_at : (plan : ℕ → List (List ℕ) → List (List ℕ)) (count : ℕ) (messages ps : List (List ℕ)) (s : ℕ) → In count s → plan_in (plans_over plan count messages) s ps ≡ plan s messages
plan_at plan count messages ps zero h = absurd (omega (arith, h.from_one))
plan_at plan count messages ps (suc s) h = at_from (λ (n : ℕ). plan n messages) 1 count s [] (omega (arith, h.up_to)) ∙ ap (λ n. plan n messages) (omega arith)

pub plan_else : (plan : ℕ → List (List ℕ) → List (List ℕ)) (count : ℕ) (messages ps : List (List ℕ)) (s : ℕ) → (In count s → ⊥) → plan_in (plans_over plan count messages) s ps ≡ []
plan_else plan count messages ps zero out = refl
plan_else plan count messages ps (suc s) out = get_or_past (plans_over plan count messages) s []
    (⊎_elim (λ (lt : s < count). absurd (out (record { from_one = omega arith; up_to = omega (arith, lt) }))) (λ (le : count ≤ s). omega (arith, le, length-over plan count messages)) (cases_lt s count))

pub plan_any : (plan : ℕ → List (List ℕ) → List (List ℕ)) (count : ℕ) (messages ps qs : List (List ℕ)) (s : ℕ) → plan_in (plans_over plan count messages) s ps ≡ plan_in (plans_over plan count messages) s qs
plan_any plan count messages ps qs zero = refl
plan_any plan count messages ps qs (suc s) = refl

is_sender : (count s : ℕ) → In count s ⊎ (In count s → ⊥)
is_sender count zero = inr (λ h. omega (arith, h.from_one))
is_sender count (suc s) = ⊎_elim (λ (lt : s < count). inl (record { from_one = omega arith; up_to = omega (arith, lt) })) (λ (le : count ≤ s). inr (λ h. omega (arith, h.up_to, le))) (cases_lt s count)

pub answering_goes_on : AnsweringGoesOn
answering_goes_on plan count on s earlier later begun = ⊎_elim
    (λ (h : In count s).
    (let p = on s earlier later begun in
    (p.0, ap (λ w. w ++ p.0) (plan_at plan count earlier earlier s h) ∙ p.1 ∙ sym (plan_at plan count later later s h))))
    (λ (out : In count s → ⊥). (answering_plan plan count s later, ap (λ w. w ++ answering_plan plan count s later) (plan_else plan count earlier earlier s out)))
    (is_sender count s)

-- the records of entries have no mark
never_marks : (es : List Entry) → is_finished (entries_made es) ≡ false
never_marks [] = refl
never_marks (e ∷ es) = never_marks es

-- ---- what the passes know

module _ (opening now : Account) (plan : ℕ → List (List ℕ) → List (List ℕ)) (count : ℕ) (known : ℕ → Part) (messages : List (List ℕ)) (finished : Bool)
    (p : PassesOver opening plan count known messages finished) (c : Closed known (known 1).made opening now) where
  abbrev plans : List (List (List ℕ))
  plans = plans_over plan count messages

  many : length plans ≡ count
  many = length-over plan count messages

  its : (s : ℕ) → In count s → plan_in plans s [] ≡ plan s messages
  its s h = plan_at plan count messages [] s h

  fewer : (n : ℕ) → In (length plans) n → In count n
  fewer n h = record { from_one = h.from_one; up_to = omega (arith, h.up_to, many) }

  wider : (n : ℕ) → In (length plans + 1) n → In (count + 1) n
  wider n h = record { from_one = h.from_one; up_to = omega (arith, h.up_to, many) }

  -- a pass of the business, or the last
  which : (n : ℕ) → In (count + 1) n → In count n ⊎ (n ≡ count + 1)
  which n h = ⊎_elim (λ (lt : n < count + 1). inl (record { from_one = h.from_one; up_to = omega (arith, lt) })) (λ (le : count + 1 ≤ n). inr (omega (arith, le, h.up_to))) (cases_lt n (count + 1))

  pub all_made : business.AllMade (λ n. plan n messages) count (made_part (count + 1) opening) known → AllMade opening plans known
  all_made all s h = all s (fewer s h) ∙ ap (λ ps. entries_of opening.history.made s ++ entries_behind s (length (entries_of opening.history.made s)) (drop (length (entries_of opening.history.made s)) ps)) (sym (its s (fewer s h)))

  ended_by : (n : ℕ) → In (count + 1) n → (known n).ended ≡ true → (finished ≡ true) × AllMade opening plans known
  ended_by n h e = ⊎_elim
      (λ (s : In count n). ⊎_elim (λ was. absurd (true≢false (sym was))) (λ k. (k.0, all_made k.1)) (p.grew.ended n s e))
      (λ is. absurd (true≢false (sym (subst (λ k. (known k).ended ≡ true) is e) ∙ p.unmarked)))
      (which n h)

  -- where one lost something, none made the mark
  no_mark : (n : ℕ) → In count n → business.Loses (λ k. plan k messages) count (made_part (count + 1) opening) known finished n
      → (m : ℕ) → In (count + 1) m → (known m).ended ≡ true → ⊥
  no_mark n h l m inside e = ⊎_elim
      (λ (s : In count m). true≢false (sym (l.unmade m s e)))
      (λ is. true≢false (sym (subst (λ k. (known k).ended ≡ true) is e) ∙ p.unmarked))
      (which m inside)

  loses_own : (n : ℕ) → In count n → business.Loses (λ k. plan k messages) count (made_part (count + 1) opening) known finished n → LosesOwn opening plans known n
  loses_own n h l = record {
    sender = record { from_one = h.from_one; up_to = omega (arith, h.up_to, many) };
    opened = λ was. l.unmarked (ap (λ (x : History). x.finished) (sym ((p.grew.same n h).seen.alone was)) ∙ was);
    unended = λ m inside. no_mark n h l m (wider m inside);
    what = ⊎_elim
        (λ m. inl (next_messages m))
        (λ f. inr (f.0, all_made f.2))
        l.what;
  }
    where
      next_messages : made.LosesMessages (plan n messages) (known n) → LosesMessages (plan_in plans n []) (known n)
      next_messages m = subst (λ ps. LosesMessages ps (known n)) (sym (its n h)) (record { count = m.count; within = m.within; few = m.few; is = m.is })

  lost_by : (n : ℕ) → In (count + 1) n → ((known n).lost ≡ []) ⊎ (In count n × business.Loses (λ k. plan k messages) count (made_part (count + 1) opening) known finished n)
  lost_by n h = ⊎_elim
      (λ (s : In count n). ⊎_elim (λ same. inl same) (λ l. inr (s, l)) (p.grew.lost n s))
      (λ is. inl (ap (λ k. (known k).lost) is ∙ p.unlost))
      (which n h)

  pub plans_made : PlansMade opening plans known
  plans_made = record {
    made = p.made ∙ ap (λ k. k + 1) (sym many);
    number = λ n h. p.number n (wider n h);
    each = λ s h. let m = p.grew.each s (fewer s h) in subst (λ ps. MadeOf (entries_of opening.history.made s) s ps (known s).mine) (sym (its s (fewer s h))) (record { count = m.count; are = m.are });
    last = ap (λ k. (known (k + 1)).mine) many ∙ p.last ∙ ap (λ k. entries_of opening.history.made (k + 1)) (sym many);
    unmarked = ap (λ k. (known (k + 1)).ended) many ∙ p.unmarked;
    ended = λ n h e. (ended_by n (wider n h) e).1;
    lost = λ n h. ⊎_elim (λ none. inl none) (λ l. inr (loses_own n l.0 l.1)) (lost_by n (wider n h));
  }

  inside : (n : ℕ) → In (known 1).made n → In (count + 1) n
  inside n h = record { from_one = h.from_one; up_to = omega (arith, h.up_to, p.made) }

  -- where the mark may stand behind the closing history, the peer's finish is among what was answered
  marked_late : is_finished now.refused ≡ true → finished ≡ true
  marked_late late = ⊎_elim
      (λ none. absurd (true≢false (sym late ∙ ap is_finished none)))
      (λ a. ⊎_elim
      (λ none. absurd (true≢false (sym late ∙ ap is_finished (sym a.2 ∙ none))))
      (λ l. ⊎_elim
      (λ m. absurd (true≢false (sym late ∙ ap is_finished (sym a.2 ∙ m.is) ∙ never_marks (entries_after (known a.0) (take m.count (drop (length (known a.0).mine) (plan a.0 messages)))))))
      (λ f. f.1)
      l.1.what)
      (lost_by a.0 (inside a.0 a.1)))
      c.lost

  marked_now : opening.history.finished ≡ false → now.history.finished ≡ true → finished ≡ true
  marked_now open_is marked = ⊎_elim
      (λ was. absurd (true≢false (sym was ∙ open_is)))
      (λ m. (ended_by m.0 (inside m.0 m.1) m.2).0)
      (c.marked marked)

finished_of : (h : History) → is_finished (outbox_of h) ≡ h.finished
finished_of h = ap (λ (x : History). x.finished) (history_of-outbox_of h)

finished_behind : (rs kept : List OutboxRecord) → is_finished (rs ++ kept) ≡ true → (is_finished rs ≡ true) ⊎ (is_finished kept ≡ true)
finished_behind [] kept e = inr e
finished_behind (entry x ∷ rs) kept e = finished_behind rs kept e
finished_behind (finish ∷ rs) kept e = inl refl

finished_first : (rs more : List OutboxRecord) → is_finished rs ≡ true → is_finished (rs ++ more) ≡ true
finished_first [] more e = absurd (true≢false (sym e))
finished_first (entry x ∷ rs) more e = finished_first rs more e
finished_first (finish ∷ rs) more e = refl

-- where the history with a beginning of what was lost has the mark, the peer's finish is among what was answered
pub peer_done_by : (opening now : Account) (plan : ℕ → List (List ℕ) → List (List ℕ)) (count : ℕ) (known : ℕ → Part) (answered : List InboxRecord) → PassesAnswered opening plan count known answered
    → Closed known (known 1).made opening now → (kept : List OutboxRecord) → IsPrefix kept now.refused → (whole : History) → outbox_of now.history ++ kept ≡ outbox_of whole
    → opening.history.finished ≡ false → whole.finished ≡ true → has_peer_finished answered ≡ true
peer_done_by opening now plan count known answered p c kept first whole goes_on open_is marked = ⊎_elim
    (λ now_marked. marked_now opening now plan count known (messages_of answered) (has_peer_finished answered) p c open_is (sym (finished_of now.history) ∙ now_marked))
    (λ late. marked_late opening now plan count known (messages_of answered) (has_peer_finished answered) p c (ap is_finished (sym first.1) ∙ finished_first kept first.0 late))
    (finished_behind (outbox_of now.history) kept (ap is_finished goes_on ∙ finished_of whole ∙ marked))

-- the plans of its senders are those of the business
pub plans_answered : (plan : ℕ → List (List ℕ) → List (List ℕ)) (count : ℕ) (i : List InboxRecord) → plans_at (answering plan count) i ≡ plans_over plan count (messages_of i)
plans_answered plan count i =
    let plans : List (List (List ℕ)) = plans_over plan count (messages_of i) in
    subst (λ (k : ℕ). map (λ (n : ℕ). plan_in plans n (messages_of i)) (counts_from 1 k) ≡ plans) (length-over plan count (messages_of i)) (plans_submitted plans i)

abbrev pub answers_whole : (opening now : Account) (plan : ℕ → List (List ℕ) → List (List ℕ)) (count : ℕ) (known : ℕ → Part) (answered i j : List InboxRecord) → PassesAnswered opening plan count known answered
    → Closed known (known 1).made opening now → IsPrefix i answered → IsPrefix answered j → KeepsWhole (answering plan count) opening now i j
answers_whole opening now plan count known answered i j p c opened reached =
    let plans : List (List (List ℕ)) = plans_over plan count (messages_of answered) in
    let both = plans_are_kept opening now plans known (plans_made opening now plan count known (messages_of answered) (has_peer_finished answered) p c) c in
    let on = plans_go_on plans opening.history now.history now.refused both.0 both.1 now.refused (prefix_self now.refused) in
    let same : plans ≡ plans_at (answering plan count) answered = sym (plans_answered plan count answered) in
    record {
      whole = on.whole;
      goes_on = on.goes_on;
      in_order = on.in_order;
      keeps = record {
        answered = answered;
        opened = opened;
        reached = reached;
        loses = subst (λ (ps : List (List (List ℕ))). LosesNext ps opening.history now.history now.refused) same both.1;
        keeps = subst (λ (ps : List (List (List ℕ))). KeepsPlans ps opening.history on.whole) same on.keeps;
        waited = λ waits open_is marked. peer_done_by opening now plan count known answered p c now.refused (prefix_self now.refused) on.whole on.goes_on open_is marked;
      };
    }

pub answers_are_kept : AnswersAreKept
answers_are_kept opening now plan count known i j answered p c opened reached kept first =
    let both = plans_are_kept opening now (plans_over plan count (messages_of answered)) known (plans_made opening now plan count known (messages_of answered) (has_peer_finished answered) p c) c in
    let on = plans_go_on (plans_over plan count (messages_of answered)) opening.history now.history now.refused both.0 both.1 kept first in
    record {
      whole = on.whole;
      goes_on = on.goes_on;
      keeps = record {
        answered = answered;
        opened = opened;
        reached = reached;
        keeps = on.keeps;
        peer_done = peer_done_by opening now plan count known answered p c kept first on.whole on.goes_on;
      };
      in_order = on.in_order;
    }

-- ---- an outbox that keeps them, by its records

messages_later : (a b : List InboxRecord) → IsPrefix a b → IsPrefix (messages_of a) (messages_of b)
messages_later a b p = (messages_of p.0, sym (applied_payloads a p.0) ∙ ap messages_of p.1)

module _ (plan : ℕ → List (List ℕ) → List (List ℕ)) (count : ℕ) (goes : GoesOn plan) (o x : History) (life : Life) (k : KeepsAnswers plan count o x life.served.opening_inbox life.served.closing_inbox) where
  abbrev closing_messages : List (List ℕ)
  closing_messages = payloads_of (applied life.served.closing_inbox)

  abbrev over_answered : List (List (List ℕ))
  over_answered = plans_over plan count (messages_of k.answered)

  continues : (s : ℕ) → Continues (answering_plan plan count s closing_messages) (sent_by (entries (outbox_of o)) s) (sent_by (entries (outbox_of x)) s)
  continues s =
      let longer : IsPrefix (plan_in over_answered s []) (answering_plan plan count s closing_messages) = subst (λ ps. IsPrefix ps (answering_plan plan count s closing_messages)) (plan_any plan count (messages_of k.answered) (messages_of k.answered) [] s)
      (answering_goes_on plan count goes s (messages_of k.answered) closing_messages (messages_later k.answered life.served.closing_inbox k.reached)) in
      subst (λ (es : List Entry). Continues (answering_plan plan count s closing_messages) (sent_by es s) (sent_by (entries (outbox_of x)) s)) (sym (entries-outbox_of o))
      (subst (λ (es : List Entry). Continues (answering_plan plan count s closing_messages) (sent_by o.made s) (sent_by es s)) (sym (entries-outbox_of x))
      (continues_longer (plan_in over_answered s []) (answering_plan plan count s closing_messages) (sent_by o.made s) (sent_by x.made s) longer (k.keeps.each s)))

  done : is_finished (outbox_of o) ≡ false → is_finished (outbox_of x) ≡ true → SendersDone (answering_plan plan count) (entries (outbox_of o)) (entries (outbox_of x)) life.served.opening_inbox life.served.closing_inbox
  done open_is marked =
      let unmarked : o.finished ≡ false = sym (finished_of o) ∙ open_is in
      let now : x.finished ≡ true = sym (finished_of x) ∙ marked in
      record {
        answered = k.answered;
        opened = k.opened;
        reached = k.reached;
        peer_done = inr (k.peer_done unmarked now);
        all_sent = λ s. subst (λ ps. Completes ps (sent_by (entries (outbox_of o)) s) (sent_by (entries (outbox_of x)) s)) (plan_any plan count (messages_of k.answered) [] (messages_of k.answered) s)
            (subst (λ (es : List Entry). Completes (plan_in over_answered s []) (sent_by es s) (sent_by (entries (outbox_of x)) s)) (sym (entries-outbox_of o))
            (subst (λ (es : List Entry). Completes (plan_in over_answered s []) (sent_by o.made s) (sent_by es s)) (sym (entries-outbox_of x)) (k.keeps.done unmarked now s)));
      }

  begins : BeginsHistory (history_of (outbox_of o)) (history_of (outbox_of x))
  begins = subst (λ (h : History). BeginsHistory h (history_of (outbox_of x))) (sym (history_of-outbox_of o)) (subst (λ (h : History). BeginsHistory o h) (sym (history_of-outbox_of x)) k.keeps.begins)

module _ (plan : ℕ → List (List ℕ) → List (List ℕ)) (count : ℕ) (goes : GoesOn plan) (o c : History) (refused : List OutboxRecord) (life : Life) (order : InOrder c.made)
    (on : (kept : List OutboxRecord) → IsPrefix kept refused → AnswersOnBy plan count o c life.served.opening_inbox life.served.closing_inbox kept) where
  abbrev over : Life
  over = record { opening_outbox = outbox_of o; closing_outbox = outbox_of c; refused_outbox = refused; served = life.served }

  -- what holds of the records of each history in order that keeps the plans holds of each image
  each_image : (P : List OutboxRecord → Type 0) → ((x : History) → KeepsAnswers plan count o x life.served.opening_inbox life.served.closing_inbox → InOrder x.made → P (outbox_of x)) → (image : List OutboxRecord) → IsImage (outbox_of c) refused image → P image
  each_image P at image g =
      let by = on g.kept g.beginning in
      subst P (sym (g.holds ∙ by.goes_on)) (at by.whole by.keeps (by.in_order order))

  -- the closing history begins with the opening one
  alone : BeginsHistory o c
  alone =
      let by = on [] (refused, refl) in
      subst (λ (h : History). BeginsHistory o h) (sym (history_of-outbox_of by.whole) ∙ ap history_of (sym by.goes_on ∙ append-nil (outbox_of c)) ∙ history_of-outbox_of c) by.keeps.keeps.begins

  kept_outbox : KeepsOutbox (answering_plan plan count) over
  kept_outbox = record {
    outbox_grows = outbox_begins o c alone;
    history_grows = each_image (λ (rs : List OutboxRecord). BeginsHistory (history_of (outbox_of o)) (history_of rs)) (λ x k _. begins plan count goes o x life k);
    in_order = each_image (λ (rs : List OutboxRecord). InOrder (entries rs)) (λ x k ordered. subst InOrder (sym (entries-outbox_of x)) ordered);
    plans = λ image g s.
        each_image (λ (rs : List OutboxRecord). Continues (answering_plan plan count s (payloads_of (applied life.served.closing_inbox))) (sent_by (entries (outbox_of o)) s) (sent_by (entries rs) s))
        (λ x k _. continues plan count goes o x life k s) image g;
    finishes = λ image g open_is.
        each_image (λ (rs : List OutboxRecord). is_finished rs ≡ true → SendersDone (answering_plan plan count) (entries (outbox_of o)) (entries rs) life.served.opening_inbox life.served.closing_inbox)
        (λ x k _. done plan count goes o x life k open_is) image g;
  }

pub answers_keep_outbox : AnswersKeepOutbox
answers_keep_outbox plan count o c life goes order opening closing on =
    let same : over plan count goes o c life.refused_outbox life order on ≡ life =
    ap (λ (rs : List OutboxRecord). record { opening_outbox = rs; closing_outbox = outbox_of c; refused_outbox = life.refused_outbox; served = life.served }) (sym opening)
    ∙ ap (λ (rs : List OutboxRecord). record { opening_outbox = life.opening_outbox; closing_outbox = rs; refused_outbox = life.refused_outbox; served = life.served }) (sym closing) in
    subst (λ (l : Life). KeepsOutbox (answering_plan plan count) l) same (kept_outbox plan count goes o c life.refused_outbox life order on)
