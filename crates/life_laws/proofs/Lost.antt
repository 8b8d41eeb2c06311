-- A history that keeps plans goes on with what was lost behind it.
use Rattle.std.proofs.Common.{◌≡◌, ◌≢◌, ℕ, zero, suc, ◌+◌, Bool, true, false, true≢false, List, [], ◌∷◌, ◌++◌, map, length, take, drop, slice_get, Some, ⊎_elim, refl, sym, ap, subst, ◌∙◌, arith, append-nil, append_assoc, length-append}
use Rattle.std.proofs.lemmas.List.{map-append}
use Rattle.std.proofs.lemmas.Option.{same_Some}
use mathlib.Core.List.{IsPrefix}
use mathlib.Core.Logic.{dite}
use native.Mathlib.Decide.{ℕ_discrete}
use Rattle.session_model.specs.Journal.{Entry, OutboxRecord, entry, finish, History, BeginsHistory, InOrder, entries_of, payloads}
use Rattle.session_model.specs.Plans.{sent_by, Continues}
use Rattle.session_model.proofs.Lists.{prefix_self, prefix_trans, prefix_take}
use Rattle.session_model.proofs.Images.{image_of_none, image_of_one}
use Rattle.session_model.proofs.Journals.{length-payloads}
use Rattle.jr_boxes.specs.Outboxes.{mark_of, outbox_of, with_entry, with_mark}
use Rattle.jr_boxes.proofs.Histories.{entries_of-same, entries_of-other, order_goes_on}
use Rattle.jr_kept.specs.Entries.{entries_behind, entries_made}
use Rattle.gate_senders.specs.Kept.{next_entry, next_entries}
use Rattle.life_laws.specs.Plans.{plan_in, KeepsPlans, NextMessages, FinishBehind, LosesNext, GoesOnBy}
use Rattle.life_laws.specs.PlanLaws.{PlansGoOn}

-- a beginning of a list with the next element is one too
prefix_push : {A : Type 0} (more xs : List A) (x : A) → IsPrefix more xs → slice_get xs (length more) ≡ Some x → IsPrefix (more ++ x ∷ []) xs
prefix_push [] [] x b there = absurd cc
prefix_push [] (y ∷ xs) x b there = (xs, ap (λ z. z ∷ xs) (sym (same_Some y x there)))
prefix_push (m ∷ more) [] x b there = absurd (cc (b.1))
prefix_push (m ∷ more) (y ∷ xs) x b there = let r = prefix_push more xs x (b.0, cc (b.1)) there in (r.0, cc (b.1, r.1))

-- an element of the rest of a list is one of the list
in_rest : {A : Type 0} (d k m : ℕ) (xs : List A) (x : A) → m ≡ d + k → slice_get xs m ≡ Some x → slice_get (drop d xs) k ≡ Some x
in_rest zero k m xs x is there = ap (λ j. slice_get xs j) (omega (arith, is)) ∙ there
in_rest (suc d) k m [] x is there = absurd (cc)
in_rest (suc d) k zero (y ∷ ys) x is there = absurd (omega (arith, is))
in_rest (suc d) k (suc m) (y ∷ ys) x is there = in_rest d k m ys x (omega (arith, is)) there

-- the first of what a plan has behind so many messages, and what it has behind that
record Cut (n : ℕ) (plan : List (List ℕ)) (p : List ℕ) (ps : List (List ℕ)) : Type 0 where
  next : slice_get plan n ≡ Some p
  rest : IsPrefix ps (drop (n + 1) plan)

cut_first : (n : ℕ) (plan : List (List ℕ)) (p : List ℕ) (ps : List (List ℕ)) → IsPrefix (p ∷ ps) (drop n plan) → Cut n plan p ps
cut_first zero [] p ps b = absurd (cc (b.1))
cut_first zero (q ∷ qs) p ps b = record { next = cc (b.1); rest = (b.0, cc (b.1)) }
cut_first (suc n) [] p ps b = absurd (cc (b.1))
cut_first (suc n) (q ∷ qs) p ps b =
    let c = cut_first n qs p ps b in
    let same : suc (n + 1) ≡ suc n + 1 = omega arith in
    record { next = c.next; rest = subst (λ (m : ℕ). IsPrefix ps (drop m (q ∷ qs))) same c.rest }

-- what continues a plan goes on with the next message of it
continues_next : (plan before after : List (List ℕ)) (payload : List ℕ) → Continues plan before after → slice_get plan (length after) ≡ Some payload → Continues plan before (after ++ payload ∷ [])
continues_next plan before after payload c next = record {
  more = c.more ++ payload ∷ [];
  behind = ap (λ (ps : List (List ℕ)). ps ++ payload ∷ []) c.behind ∙ append_assoc before c.more (payload ∷ []);
  planned = prefix_push c.more (drop (length before) plan) payload c.planned
      (in_rest (length before) (length c.more) (length after) plan payload (ap length c.behind ∙ length-append before c.more) next);
}

-- what a sender sent, with one more entry of it or of another
sent_by-same : (es : List Entry) (e : Entry) → sent_by (es ++ e ∷ []) e.sender ≡ sent_by es e.sender ++ e.payload ∷ []
sent_by-same es e = ap (λ (ds : List Entry). payloads ds) (entries_of-same es e) ∙ map-append (λ (d : Entry). d.payload) (entries_of es e.sender) (e ∷ [])

sent_by-other : (es : List Entry) (e : Entry) (s : ℕ) → e.sender ≢ s → sent_by (es ++ e ∷ []) s ≡ sent_by es s
sent_by-other es e s other = ap (λ (ds : List Entry). payloads ds) (entries_of-other es e s other)

-- the records of a history without the mark, with an entry and with the mark behind them
entry_behind : (es : List Entry) (e : Entry) (b : Bool) → b ≡ false
    → (map (λ (d : Entry). entry d) es ++ mark_of b) ++ entry e ∷ [] ≡ map (λ (d : Entry). entry d) (es ++ e ∷ []) ++ mark_of b
entry_behind es e true is = absurd (true≢false is)
entry_behind [] e false is = refl
entry_behind (x ∷ es) e false is = ap (λ (rs : List OutboxRecord). entry x ∷ rs) (entry_behind es e false is)

mark_behind : (es : List Entry) (b : Bool) → b ≡ false → (map (λ (d : Entry). entry d) es ++ mark_of b) ++ finish ∷ [] ≡ map (λ (d : Entry). entry d) es ++ finish ∷ []
mark_behind es true is = absurd (true≢false is)
mark_behind [] false is = refl
mark_behind (x ∷ es) false is = ap (λ (rs : List OutboxRecord). entry x ∷ rs) (mark_behind es false is)

module _ (plans : List (List (List ℕ))) (opening closing : History) (k : KeepsPlans plans opening closing) (unmarked : closing.finished ≡ false) where
  -- the opening history had no mark, so whatever has more entries goes on from it
  begins_more : (whole : History) → IsPrefix closing.made whole.made → BeginsHistory opening whole
  begins_more whole more = record {
    made = prefix_trans opening.made closing.made whole.made k.begins.made more;
    alone = λ was. absurd (true≢false (sym was ∙ (ap (λ (h : History). h.finished) (k.begins.alone was) ∙ unmarked)));
  }

  -- an entry of a sender's plan behind the history
  module _ (sender : ℕ) (payload : List ℕ) (next : slice_get (plan_in plans sender []) (length (entries_of closing.made sender)) ≡ Some payload) where
    abbrev e : Entry
    e = next_entry closing sender payload

    its : Continues (plan_in plans sender []) (sent_by opening.made sender) (sent_by (closing.made ++ e ∷ []) sender)
    its = subst (λ (ps : List (List ℕ)). Continues (plan_in plans sender []) (sent_by opening.made sender) ps) (sym (sent_by-same closing.made e))
        (continues_next (plan_in plans sender []) (sent_by opening.made sender) (sent_by closing.made sender) payload (k.each sender)
        (ap (λ (n : ℕ). slice_get (plan_in plans sender []) n) (length-payloads (entries_of closing.made sender)) ∙ next))

    each : (s : ℕ) → Continues (plan_in plans s []) (sent_by opening.made s) (sent_by (closing.made ++ e ∷ []) s)
    each s = dite (ℕ_discrete sender s)
        (λ is. subst (λ (n : ℕ). Continues (plan_in plans n []) (sent_by opening.made n) (sent_by (closing.made ++ e ∷ []) n)) is its)
        (λ other. subst (λ (ps : List (List ℕ)). Continues (plan_in plans s []) (sent_by opening.made s) ps) (sym (sent_by-other closing.made e s other)) (k.each s))

    keeps_next : KeepsPlans plans opening (with_entry closing e)
    keeps_next = record {
      begins = begins_more (with_entry closing e) (e ∷ [], refl);
      each = each;
      done = λ _ marked. absurd (true≢false (sym marked ∙ unmarked));
      none = k.none;
    }

  goes_marked : (lost : List OutboxRecord) → FinishBehind plans opening closing lost → GoesOnBy plans opening closing (finish ∷ [])
  goes_marked lost f = record {
    whole = with_mark closing;
    goes_on = mark_behind closing.made closing.finished unmarked;
    keeps = record { begins = begins_more (with_mark closing) (prefix_self closing.made); each = k.each; done = λ _ _ s. f.all s; none = λ e. absurd (omega (arith, f.some, ap length e)) };
    in_order = λ order. order;
  }

-- nothing behind it
goes_alone : (plans : List (List (List ℕ))) (opening closing : History) → KeepsPlans plans opening closing → GoesOnBy plans opening closing []
goes_alone plans opening closing k = record { whole = closing; goes_on = append-nil (outbox_of closing); keeps = k; in_order = λ order. order }

-- one entry of a sender's plan behind it, and what goes on from there
module _ (plans : List (List (List ℕ))) (opening closing : History) (sender : ℕ) (p : List ℕ) (ps : List (List ℕ)) where
  abbrev first : Entry
  first = next_entry closing sender p

  abbrev with_first : History
  with_first = with_entry closing first

  one_more : length (entries_of with_first.made sender) ≡ length (entries_of closing.made sender) + 1
  one_more = ap length (entries_of-same closing.made first) ∙ length-append (entries_of closing.made sender) (first ∷ [])

  behind : entries_made (next_entries with_first sender ps) ≡ entries_made (entries_behind sender (length (entries_of closing.made sender) + 1) ps)
  behind = ap (λ (n : ℕ). entries_made (entries_behind sender n ps)) one_more

  goes_first : closing.finished ≡ false → GoesOnBy plans opening with_first (entries_made (next_entries with_first sender ps)) → GoesOnBy plans opening closing (entries_made (next_entries closing sender (p ∷ ps)))
  goes_first unmarked on = record {
    whole = on.whole;
    goes_on = ap (λ (rs : List OutboxRecord). outbox_of closing ++ entry first ∷ rs) (sym behind)
        ∙ sym (append_assoc (outbox_of closing) (entry first ∷ []) (entries_made (next_entries with_first sender ps)))
        ∙ ap (λ (rs : List OutboxRecord). rs ++ entries_made (next_entries with_first sender ps)) (entry_behind closing.made first closing.finished unmarked)
        ∙ on.goes_on;
    keeps = on.keeps;
    in_order = λ order. on.in_order (order_goes_on closing.made first order refl);
  }

-- the next messages of a sender's plan behind it, one after another
goes_next : (plans : List (List (List ℕ))) (opening closing : History) (sender : ℕ) (ps : List (List ℕ)) → KeepsPlans plans opening closing → closing.finished ≡ false
    → IsPrefix ps (drop (length (entries_of closing.made sender)) (plan_in plans sender [])) → GoesOnBy plans opening closing (entries_made (next_entries closing sender ps))
goes_next plans opening closing sender [] k unmarked planned = goes_alone plans opening closing k
goes_next plans opening closing sender (p ∷ ps) k unmarked planned =
    let cut = cut_first (length (entries_of closing.made sender)) (plan_in plans sender []) p ps planned in
    goes_first plans opening closing sender p ps unmarked
    (goes_next plans opening (with_entry closing (next_entry closing sender p)) sender ps (keeps_next plans opening closing k unmarked sender p cut.next) unmarked
    (subst (λ (n : ℕ). IsPrefix ps (drop n (plan_in plans sender []))) (sym (one_more plans opening closing sender p ps)) cut.rest))

-- a beginning of a sender's entries has a beginning of their payloads
record Made (kept : List OutboxRecord) (sender n : ℕ) (ps : List (List ℕ)) : Type 0 where
  some : List (List ℕ)
  first : IsPrefix some ps
  is : kept ≡ entries_made (entries_behind sender n some)

made_first : (kept : List OutboxRecord) (sender n : ℕ) (ps : List (List ℕ)) → IsPrefix kept (entries_made (entries_behind sender n ps)) → Made kept sender n ps
made_first [] sender n ps b = record { some = []; first = (ps, refl); is = refl }
made_first (r ∷ kept) sender n [] b = absurd (cc (b.1))
made_first (r ∷ kept) sender n (p ∷ ps) b =
    let m = made_first kept sender (n + 1) ps (b.0, cc (b.1)) in
    let first : OutboxRecord = entry (record { sender = sender; own_number = n + 1; payload = p }) in
    let same : r ≡ first = cc (b.1) in
    record {
      some = p ∷ m.some;
      first = (m.first.0, ap (λ (qs : List (List ℕ)). p ∷ qs) m.first.1);
      is = ap (λ (s : OutboxRecord). s ∷ kept) same ∙ ap (λ (rs : List OutboxRecord). first ∷ rs) m.is;
    }

pub plans_go_on : PlansGoOn
plans_go_on plans opening closing lost k loses kept first = ⊎_elim
    (λ none. alone (subst (λ (rs : List OutboxRecord). IsPrefix kept rs) none first))
    (λ l. ⊎_elim
    (λ m. messages l.0 m (subst (λ (rs : List OutboxRecord). IsPrefix kept rs) m.is first))
    (λ f. mark l.0 f (subst (λ (rs : List OutboxRecord). IsPrefix kept rs) f.is first)) l.1)
    loses
  where
    alone : IsPrefix kept [] → GoesOnBy plans opening closing kept
    alone b = image_of_none (λ (rs : List OutboxRecord). GoesOnBy plans opening closing rs) [] kept (goes_alone plans opening closing k) (record { kept = kept; beginning = b; holds = refl })

    mark : closing.finished ≡ false → FinishBehind plans opening closing lost → IsPrefix kept (finish ∷ []) → GoesOnBy plans opening closing kept
    mark unmarked f b = image_of_one (λ (rs : List OutboxRecord). GoesOnBy plans opening closing rs) [] finish kept (goes_alone plans opening closing k)
        (goes_marked plans opening closing k unmarked lost f) (record { kept = kept; beginning = b; holds = refl })

    messages : closing.finished ≡ false → (m : NextMessages plans closing lost)
        → IsPrefix kept (entries_made (next_entries closing m.sender (take m.count (drop (length (entries_of closing.made m.sender)) (plan_in plans m.sender []))))) → GoesOnBy plans opening closing kept
    messages unmarked m b =
        let had : ℕ = length (entries_of closing.made m.sender) in
        let rest : List (List ℕ) = drop had (plan_in plans m.sender []) in
        let made = made_first kept m.sender had (take m.count rest) b in
        subst (λ (rs : List OutboxRecord). GoesOnBy plans opening closing rs) (sym made.is)
        (goes_next plans opening closing m.sender made.some k unmarked (prefix_trans made.some (take m.count rest) rest made.first (prefix_take m.count rest)))
