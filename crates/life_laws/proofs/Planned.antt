-- The plans of senders, as their passes know them once all are back.
use Rattle.std.proofs.Common.{◌≡◌, ◌≢◌, ◌⊎◌, inl, inr, ⊎_elim, ℕ, zero, suc, ◌+◌, ◌<◌, ◌≤◌, Bool, true, false, true≢false, cond, ne_eqb, List, [], ◌∷◌, ◌++◌, length, take, drop, slice_get, Some, refl, sym, ap, subst, ◌∙◌, arith, append-nil, drop_of_length-le}
use Rattle.std.specs.List.{AllByRecursion}
use Rattle.std.proofs.lemmas.Bool.{cases_Bool, cases_lt}
use Rattle.std.proofs.lemmas.List.{map-append, get_or_past}
use mathlib.Core.List.{IsPrefix}
use mathlib.Core.Logic.{dite}
use native.Mathlib.Decide.{ℕ_discrete}
use Rattle.session_model.specs.Journal.{Entry, History, OutboxRecord, entries_of, payloads, BeginsHistory}
use Rattle.session_model.specs.Plans.{sent_by, Continues, Completes}
use Rattle.session_model.proofs.Lists.{prefix_take}
use Rattle.session_model.proofs.Journals.{length-payloads}
use Rattle.jr_kept.specs.Entries.{entries_made}
use Rattle.gate_turn.specs.Views.{Account, Part}
use Rattle.gate_turn.specs.Rule.{In}
use Rattle.gate_turn.specs.Steps.{Closed}
use Rattle.gate_turn.proofs.Histories.{entries_of-append}
use Rattle.gate_staff.specs.Sent.{entries_behind}
use Rattle.life_laws.specs.Plans.{plan_in, AllMade, LosesOwn, PlansMade, NextMessages, LosesNext}
use Rattle.gate_staff.specs.Made.{MadeOf, IsAllMade, LosesMessages}
use Rattle.life_laws.specs.PlanLaws.{PlansAreKept}

payloads-entries_behind : (sender n : ℕ) (ps : List (List ℕ)) → payloads (entries_behind sender n ps) ≡ ps
payloads-entries_behind sender n [] = refl
payloads-entries_behind sender n (p ∷ ps) = ap (λ (qs : List (List ℕ)). p ∷ qs) (payloads-entries_behind sender (n + 1) ps)

-- the payloads of what a sender had, and of what it made behind that
payloads_behind : (had mine : List Entry) (sender : ℕ) (ps : List (List ℕ)) → mine ≡ had ++ entries_behind sender (length had) ps → payloads mine ≡ payloads had ++ ps
payloads_behind had mine sender ps e =
    ap (λ (es : List Entry). payloads es) e ∙ map-append (λ (d : Entry). d.payload) had (entries_behind sender (length had) ps)
    ∙ ap (λ (qs : List (List ℕ)). payloads had ++ qs) (payloads-entries_behind sender (length had) ps)

continues_made : (had mine : List Entry) (sender : ℕ) (plan : List (List ℕ)) → MadeOf had sender plan mine → Continues plan (payloads had) (payloads mine)
continues_made had mine sender plan m = record {
  more = take m.count (drop (length had) plan);
  behind = payloads_behind had mine sender (take m.count (drop (length had) plan)) m.are;
  planned = subst (λ (k : ℕ). IsPrefix (take m.count (drop (length had) plan)) (drop k plan)) (sym (length-payloads had)) (prefix_take m.count (drop (length had) plan));
}

completes_made : (had mine : List Entry) (sender : ℕ) (plan : List (List ℕ)) → IsAllMade had sender plan mine → Completes plan (payloads had) (payloads mine)
completes_made had mine sender plan e =
    record { behind = payloads_behind had mine sender (drop (length had) plan) e ∙ ap (λ (k : ℕ). payloads had ++ drop k plan) (sym (length-payloads had)) }

-- a sender without a plan, whose entries are the same
plan_past : (plans : List (List (List ℕ))) (s : ℕ) → (In (length plans) s → ⊥) → plan_in plans s [] ≡ []
plan_past plans zero out = refl
plan_past plans (suc s) out = get_or_past plans s []
    (⊎_elim (λ (lt : s < length plans). absurd (out (record { from_one = omega arith; up_to = omega (arith, lt) }))) (λ (le : length plans ≤ s). le) (cases_lt s (length plans)))

continues_same : (plan before after : List (List ℕ)) → after ≡ before → Continues plan before after
continues_same plan before after same = record { more = []; behind = same ∙ sym (append-nil before); planned = (drop (length before) plan, refl) }

completes_none : (plan before after : List (List ℕ)) → plan ≡ [] → after ≡ before → Completes plan before after
completes_none plan before after none same = record {
  behind = same ∙ sym (append-nil before)
      ∙ ap (λ (ps : List (List ℕ)). before ++ ps) (sym (ap (λ (ps : List (List ℕ)). drop (length before) ps) none ∙ drop_of_length-le [] {i = length before} (omega arith)));
}

-- nobody else has entries among those of the passes
none_outside : (made n : ℕ) (es : List Entry) → AllByRecursion (λ (e : Entry). In made e.sender) es → (In made n → ⊥) → entries_of es n ≡ []
none_outside made n [] all out = refl
none_outside made n (e ∷ es) all out =
    ap (λ (b : Bool). cond b (e ∷ entries_of es n) (entries_of es n)) (ne_eqb e.sender n (λ same. out (subst (In made) same all.0))) ∙ none_outside made n es all.1 out

module _ (opening now : Account) (plans : List (List (List ℕ))) (known : ℕ → Part) (p : PlansMade opening plans known) (c : Closed known (known 1).made opening now) where
  of_made : (n : ℕ) → In (length plans + 1) n → In (known 1).made n
  of_made n h = record { from_one = h.from_one; up_to = omega (arith, h.up_to, p.made) }

  to_made : (n : ℕ) → In (known 1).made n → In (length plans + 1) n
  to_made n h = record { from_one = h.from_one; up_to = omega (arith, h.up_to, p.made) }

  -- what the pass of that number made is what the history has of it
  its : (n : ℕ) → In (length plans + 1) n → (known n).mine ≡ entries_of now.history.made n
  its n h = (c.found n (of_made n h)).mine ∙ ap (λ (k : ℕ). entries_of now.history.made k) (p.number n h)

  -- of who has no plan nothing was added
  same_of : (n : ℕ) → (In (length plans) n → ⊥) → entries_of now.history.made n ≡ entries_of opening.history.made n
  same_of n out = dite (ℕ_discrete n (length plans + 1))
      (λ e.
      let at : (known (length plans + 1)).mine ≡ entries_of now.history.made (length plans + 1) = its (length plans + 1) (record { from_one = omega arith; up_to = omega arith }) in
      let last : entries_of now.history.made (length plans + 1) ≡ entries_of opening.history.made (length plans + 1) = sym at ∙ p.last in
      subst (λ (k : ℕ). entries_of now.history.made k ≡ entries_of opening.history.made k) (sym e) last)
      (λ ne.
      ap (λ (es : List Entry). entries_of es n) c.behind ∙ entries_of-append opening.history.made c.more n
      ∙ ap (λ (es : List Entry). entries_of opening.history.made n ++ es)
      (none_outside (known 1).made n c.more c.authors (λ h. out (record { from_one = h.from_one; up_to = omega (arith, h.up_to, p.made, ne) })))
      ∙ append-nil (entries_of opening.history.made n))

  inside : (s : ℕ) → In (length plans) s → In (length plans + 1) s
  inside s h = record { from_one = h.from_one; up_to = omega (arith, h.up_to) }

  cases_In : (s : ℕ) → In (length plans) s ⊎ (In (length plans) s → ⊥)
  cases_In zero = inr (λ h. omega (arith, h.from_one))
  cases_In (suc s) = ⊎_elim (λ (lt : s < length plans). inl (record { from_one = omega arith; up_to = omega (arith, lt) })) (λ (le : length plans ≤ s). inr (λ h. omega (arith, h.up_to, le))) (cases_lt s (length plans))

  continues_of : (s : ℕ) → In (length plans) s ⊎ (In (length plans) s → ⊥) → Continues (plan_in plans s []) (sent_by opening.history.made s) (sent_by now.history.made s)
  continues_of s (inl h) = subst (λ (es : List Entry). Continues (plan_in plans s []) (sent_by opening.history.made s) (payloads es)) (its s (inside s h))
      (continues_made (entries_of opening.history.made s) (known s).mine s (plan_in plans s []) (p.each s h))
  continues_of s (inr out) = continues_same (plan_in plans s []) (sent_by opening.history.made s) (sent_by now.history.made s) (ap (λ (es : List Entry). payloads es) (same_of s out))

  completes_of : AllMade opening plans known → (s : ℕ) → In (length plans) s ⊎ (In (length plans) s → ⊥)
      → Completes (plan_in plans s []) (sent_by opening.history.made s) (sent_by now.history.made s)
  completes_of all s (inl h) = subst (λ (es : List Entry). Completes (plan_in plans s []) (sent_by opening.history.made s) (payloads es)) (its s (inside s h))
      (completes_made (entries_of opening.history.made s) (known s).mine s (plan_in plans s []) (all s h))
  completes_of all s (inr out) = completes_none (plan_in plans s []) (sent_by opening.history.made s) (sent_by now.history.made s) (plan_past plans s out) (ap (λ (es : List Entry). payloads es) (same_of s out))

  done_of : opening.history.finished ≡ false → (opening.history.finished ≡ true) ⊎ ((n : ℕ) × In (known 1).made n × ((known n).ended ≡ true)) → (s : ℕ)
      → Completes (plan_in plans s []) (sent_by opening.history.made s) (sent_by now.history.made s)
  done_of open_is (inl was) s = absurd (true≢false (sym was ∙ open_is))
  done_of open_is (inr m) s = completes_of (p.ended m.0 (to_made m.0 m.1) m.2) s (cases_In s)

  begins_of : BeginsHistory opening.history now.history
  begins_of =
      let first : In (known 1).made 1 = of_made 1 (record { from_one = omega arith; up_to = omega arith }) in
      subst (λ (a : Account). BeginsHistory a.history now.history) (c.opened 1 first) (c.found 1 first).begins

  -- no mark stands behind the history where a pass lost something
  open_of : (n : ℕ) → LosesOwn opening plans known n → now.history.finished ≡ false
  open_of n l = ⊎_elim
      (λ (marked : now.history.finished ≡ true). absurd (⊎_elim l.opened (λ (m : (k : ℕ) × In (known 1).made k × ((known k).ended ≡ true)). l.unended m.0 (to_made m.0 m.1) m.2) (c.marked marked)))
      (λ is. is)
      (cases_Bool now.history.finished)

  -- the messages that a pass lost are the next ones behind what the history has of it
  next_of : (n : ℕ) → In (length plans + 1) n → (known n).lost ≡ now.refused → LosesMessages (plan_in plans n []) (known n) → NextMessages plans now.history now.refused
  next_of n h is l = record {
    sender = n;
    count = l.count;
    within = subst (λ (es : List Entry). l.count ≤ length (drop (length es) (plan_in plans n []))) (its n h) l.within;
    few = l.few;
    is = sym is ∙ l.is
        ∙ ap (λ (k : ℕ). entries_made (entries_behind k (length (known n).mine) (take l.count (drop (length (known n).mine) (plan_in plans n []))))) (p.number n h)
        ∙ ap (λ (es : List Entry). entries_made (entries_behind n (length es) (take l.count (drop (length es) (plan_in plans n []))))) (its n h);
  }

  loses_of : (now.refused ≡ []) ⊎ ((n : ℕ) × In (known 1).made n × ((known n).lost ≡ now.refused)) → LosesNext plans opening.history now.history now.refused
  loses_of (inl none) = inl none
  loses_of (inr a) = ⊎_elim
      (λ none. inl (sym a.2 ∙ none))
      (λ (l : LosesOwn opening plans known a.0). inr (
        open_of a.0 l,
        ⊎_elim
            (λ x. inl (next_of a.0 (to_made a.0 a.1) a.2 x))
            (λ x. inr (record { some = omega (arith, l.sender.from_one, l.sender.up_to); all = λ s. completes_of x.1 s (cases_In s); is = sym a.2 ∙ x.0 }))
            l.what,
      ))
      (p.lost a.0 (to_made a.0 a.1))

  -- where there is no plan, only the last pass was made, which made no mark
  none_of : plans ≡ [] → now.history.finished ≡ opening.history.finished
  none_of none = ⊎_elim
      (λ (marked : now.history.finished ≡ true). ⊎_elim (λ was. marked ∙ sym was) (λ m. absurd (by_pass m.0 m.1 m.2)) (c.marked marked))
      (λ (unmarked : now.history.finished ≡ false). ⊎_elim
      (λ (was : opening.history.finished ≡ true). sym (ap (λ (h : History). h.finished) (begins_of.alone was)))
      (λ (was : opening.history.finished ≡ false). unmarked ∙ sym was)
      (cases_Bool opening.history.finished))
      (cases_Bool now.history.finished)
    where
      by_pass : (n : ℕ) → In (known 1).made n → (known n).ended ≡ true → ⊥
      by_pass n inside ended =
          let last : n ≡ length plans + 1 = omega (arith, inside.from_one, inside.up_to, p.made, ap length none) in
          true≢false (sym (subst (λ (k : ℕ). (known k).ended ≡ true) last ended) ∙ p.unmarked)

-- where each pass made all of its plan, each sender's entries complete it
pub all_complete : (opening now : Account) (plans : List (List (List ℕ))) (known : ℕ → Part) → PlansMade opening plans known → Closed known (known 1).made opening now → AllMade opening plans known
    → (s : ℕ) → Completes (plan_in plans s []) (sent_by opening.history.made s) (sent_by now.history.made s)
all_complete opening now plans known p c all s = completes_of opening now plans known p c all s (cases_In opening now plans known p c s)

pub plans_are_kept : PlansAreKept
plans_are_kept opening now plans known p c = (
  record {
    begins = begins_of opening now plans known p c;
    each = λ s. continues_of opening now plans known p c s (cases_In opening now plans known p c s);
    done = λ open_is marked s. done_of opening now plans known p c open_is (c.marked marked) s;
    none = none_of opening now plans known p c;
  },
  loses_of opening now plans known p c c.lost,
)
