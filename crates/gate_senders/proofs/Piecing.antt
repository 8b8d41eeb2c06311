-- What a pass has seen, made and lost, once several of its entries stand or were refused.
use Rattle.std.proofs.Common.{◌≡◌, ◌≢◌, ◌⊎◌, inl, inr, ⊎_elim, ℕ, zero, suc, ◌+◌, ◌<◌, ◌≤◌, Bool, true, false, not, ◌&&◌, ◌||◌, List, [], ◌∷◌, ◌++◌, length, take, drop, Option, Some, None, refl, sym, ap, ◌∙◌, subst, arith}
use Rattle.std.proofs.lemmas.Bool.{false≢true}
use Rattle.std.specs.List.{AllByRecursion}
use Rattle.session_model.specs.Journal.{Entry, History, OutboxRecord, BeginsHistory, entries_of}
use Rattle.session_model.proofs.Lists.{drop_length}
use Rattle.jr_boxes.specs.declared.faults.SubmitFault.{SubmitFault}
use Rattle.jr_boxes.specs.declared.faults.SubmitFault.TheVariants as submit
use Rattle.jr_kept.specs.Entries.{entries_behind, entries_made, with_entries}
use Rattle.gate_turn.specs.Views.{Account, HasFailed, Part, marks_newly, drawn, got, left}
use Rattle.gate_turn.specs.Rule.{Sound}
use Rattle.gate_turn.specs.Steps.{Adds, adds_nothing, adds_entries, OwnRecords, own_entries, Refuses, Returns, Entered}
use Rattle.gate_turn.proofs.Histories.{goes}
use Rattle.gate_turn.proofs.Failing.{failed_before, failed_after}
use Rattle.gate_senders.specs.Kept.{next_entries, next_entry, StaysSound, IsFullAt, IsCutAt, RefusesAll}
use Rattle.gate_senders.specs.Shown.{TakesTurn, SubmittedAll, IsFullBehind, LosesAll, entries_after}
use Rattle.gate_senders.specs.declared.submission.Submission.{Submission}
use Rattle.gate_senders.proofs.Keeping.{submit_failed}
use Rattle.gate_senders.proofs.Entering.{with_none}
use Rattle.gate_senders.proofs.Submitting.{takes_turn, unlost, loses, same_mine, refuses_own, refuses_none, after_turn}

authors : (sender n own : ℕ) (ps : List (List ℕ)) → sender ≡ n → AllByRecursion (λ (e : Entry). e.sender ≡ n) (entries_behind sender own ps)
authors sender n own [] same = tt
authors sender n own (p ∷ ps) same = (same, authors sender n (own + 1) ps same)

-- whether a failed call refused them
pub failed_or_not : (o : Option SubmitFault) → (o ≡ Some submit.Fault) ⊎ (o ≡ Some submit.Fault → ⊥)
failed_or_not None = inr (λ e. cc e)
failed_or_not (Some f) = ⊎_elim (λ is. inl (ap Some is)) (λ other. inr (λ e. other (cc e))) (submit_failed f)

-- what was added is no mark
unmarked_still : (ended was now : Bool) → now ≡ was → (ended || (now && not was)) ≡ ended
unmarked_still true was now same = refl
unmarked_still false true now same = ap (λ (b : Bool). b && false) same
unmarked_still false false now same = ap (λ (b : Bool). b && true) same

-- what an outbox that says a of itself says after it was given messages of a sender: b
pub record Did (a b : Account) (sender : ℕ) (ps : List (List ℕ)) (s : Submission) : Type 0 where
  pub within : s.count ≤ length ps
  pub added : b.history ≡ with_entries a.history (next_entries a.history sender (take s.count ps))
  pub number : s.number ≡ length b.history.made
  pub opened : 0 < s.count → a.history.finished ≢ true
  pub none : (f : SubmitFault) → s.refused ≡ Some f → ((entries bytes : ℕ) → f ≡ submit.Full entries bytes → ⊥) → s.count ≡ 0
  pub sound : StaysSound a b
  pub full : (entries bytes : ℕ) → s.refused ≡ Some (submit.Full entries bytes) → IsCutAt a.limits b.history sender ps s.count entries bytes
  pub kept : (s.refused ≡ Some submit.Fault → ⊥) → b.refused ≡ a.refused
  pub lost : s.refused ≡ Some submit.Fault → RefusesAll a b sender ps

module _ (p q : Part) (a b : Account) (sender : ℕ) (ps : List (List ℕ)) (s : Submission) (entered : Entered p q a) (same : sender ≡ q.number) (did : Did a b sender ps s) where
  seen : q.seen ≡ a.history
  seen = ap (λ (r : Part). r.seen) entered.after

  finished : b.history.finished ≡ a.history.finished
  finished = ap (λ (h : History). h.finished) did.added

  nothing : (n : ℕ) → s.count ≡ n → n ≡ 0 → b.history ≡ a.history
  nothing n is zero_is = did.added ∙ ap (λ k. with_entries a.history (next_entries a.history sender (take k ps))) (is ∙ zero_is) ∙ with_none a.history

  adds_behind : (n : ℕ) → s.count ≡ n → Adds q.number a.history b.history
  adds_behind zero is = adds_nothing (nothing zero is refl)
  adds_behind (suc n) is =
      let unmarked = did.opened (omega (arith, is)) in
      adds_entries (record {
        entries = next_entries a.history sender (take s.count ps);
        open_before = unmarked;
        open_after = λ m. unmarked (sym finished ∙ m);
        authors = authors sender q.number (length (entries_of a.history.made sender)) (take s.count ps) same;
        behind = ap (λ (h : History). h.made) did.added;
      })

  pub adds_all : Adds q.number q.seen b.history
  adds_all = subst (λ (h : History). Adds q.number h b.history) (sym seen) (adds_behind s.count refl)

  unchanged : s.refused ≡ Some submit.Fault → b.history ≡ a.history
  unchanged failed = nothing s.count refl (did.none submit.Fault failed (λ entries bytes e. cc e))

  pub refuses_all : Refuses q b
  refuses_all = ⊎_elim
      (λ failed.
      let lost = did.lost failed in
      refuses_own q p a b (entries_made (next_entries a.history sender (take lost.count ps))) entered
      (own_entries (next_entries a.history sender (take lost.count ps)) (authors sender q.number (length (entries_of a.history.made sender)) (take lost.count ps) same))
      (unchanged failed) (lost.none, lost.refused, lost.broken))
      (λ other. refuses_none q p a b entered (did.kept other))
      (failed_or_not s.refused)

  -- what it has is sound still
  sound_after : Sound p.opening b
  sound_after = record {
    limits = did.sound.limits ∙ entered.found.sound.limits;
    faults = omega (arith, entered.found.sound.faults, did.sound.faults);
    broken = λ e. by_before e a.broken refl;
  }
    where
      by_before : b.broken ≡ true → (x : Bool) → a.broken ≡ x → HasFailed p.opening.faults b.faults
      by_before e true was = failed_after p.opening.faults a.faults b.faults (entered.found.sound.broken was) did.sound.faults
      by_before e false was = failed_before p.opening.faults a.faults b.faults entered.found.sound.faults (did.sound.broken e (λ m. false≢true (sym was ∙ m)))

  -- it may give the value back
  pub returns_all : Returns q b
  returns_all =
      let was_faults : q.faults ≡ a.faults = ap (λ (r : Part). r.faults) entered.after in
      let was_broken : q.broken ≡ a.broken = ap (λ (r : Part). r.broken) entered.after in
      let was_refused : q.refused ≡ a.refused = ap (λ (r : Part). r.refused) entered.after in
      let opening : q.opening ≡ p.opening = ap (λ (r : Part). r.opening) entered.after in
      record {
        adds = adds_all;
        faults = omega (arith, was_faults, did.sound.faults);
        refuses = refuses_all;
        stays = λ e. let x = did.sound.stays (sym was_broken ∙ e) in (x.0, x.1 ∙ sym was_refused);
        sound = subst (λ (o : Account). Sound o b) (sym opening) sound_after;
      }

  module _ (last : Part) (is : last ≡ left b q) where
    whole : last ≡ left b (got a (drawn entered.ticket p))
    whole = after_turn p q last a b entered is

    pub turn_all : TakesTurn p last
    turn_all = takes_turn p q last a b entered is (goes q.number a.history b.history (adds_behind s.count refl)).begins did.sound.faults

    pub seen_all : last.seen ≡ b.history
    seen_all = ap (λ (r : Part). r.seen) is

    pub ended_all : last.ended ≡ p.ended
    ended_all = ap (λ (r : Part). r.ended) whole ∙ unmarked_still p.ended a.history.finished b.history.finished finished

    -- the next entries behind the history are those of the pass
    nexts : (qs : List (List ℕ)) → next_entries a.history sender qs ≡ entries_after p qs
    nexts qs =
        let number : sender ≡ p.number = same ∙ ap (λ (r : Part). r.number) entered.after in
        ap (λ k. entries_behind k (length (entries_of a.history.made k)) qs) number ∙ ap (λ (es : List Entry). entries_behind p.number (length es) qs) (sym entered.found.mine)

    made : b.history.made ≡ a.history.made ++ entries_after p (take s.count ps)
    made = ap (λ (h : History). h.made) did.added ∙ ap (λ (es : List Entry). a.history.made ++ es) (nexts (take s.count ps))

    pub submits_all : SubmittedAll p last (take s.count ps)
    submits_all = record {
      before = a.history.made;
      begins = entered.found.seen.made;
      last = ap (λ (h : History). h.made) seen_all ∙ made;
      mine = ap (λ (r : Part). r.mine) whole
          ∙ ap (λ (es : List Entry). p.mine ++ es)
          (ap (λ (es : List Entry). drop (length a.history.made) es) made ∙ drop_length a.history.made (entries_after p (take s.count ps)));
    }

    pub unlost_all : (s.refused ≡ Some submit.Fault → ⊥) → last.lost ≡ p.lost
    unlost_all other = unlost p q last a b entered is (did.kept other)

    pub loses_all : s.refused ≡ Some submit.Fault → LosesAll last ps
    loses_all failed =
        let lost = did.lost failed in
        let number : last.number ≡ p.number = ap (λ (r : Part). r.number) whole in
        let mine : last.mine ≡ p.mine = same_mine p q last a b entered is (ap (λ (h : History). h.made) (unchanged failed)) in
        let after : entries_after last (take lost.count ps) ≡ entries_after p (take lost.count ps) =
        ap (λ k. entries_behind k (length last.mine) (take lost.count ps)) number ∙ ap (λ (es : List Entry). entries_behind p.number (length es) (take lost.count ps)) mine in
        record {
          count = lost.count;
          within = lost.within;
          lost = loses p q last a b entered is lost.none ∙ lost.refused ∙ ap entries_made (nexts (take lost.count ps) ∙ sym after);
          broken = ap (λ (r : Part). r.broken) is ∙ lost.broken;
        }

    pub full_all : (entries bytes : ℕ) → s.refused ≡ Some (submit.Full entries bytes) → IsFullBehind last ps s.count entries bytes
    full_all entries bytes e =
        let at = did.full entries bytes e in
        let limits : a.limits ≡ last.opening.limits = entered.found.sound.limits ∙ ap (λ (r : Part). r.opening.limits) (sym whole) in
        let number : sender ≡ last.number = same ∙ ap (λ (r : Part). r.number) (sym is) in
        let full : IsFullAt a.limits b.history (next_entry b.history last.number at.payload) entries bytes =
        subst (λ k. IsFullAt a.limits b.history (next_entry b.history k at.payload) entries bytes) number at.full in
        record {
          payload = at.payload;
          next = at.next;
          full = subst (λ l. IsFullAt l last.seen (next_entry last.seen last.number at.payload) entries bytes) limits
              (subst (λ (h : History). IsFullAt a.limits h (next_entry h last.number at.payload) entries bytes) (sym seen_all) full);
          unmarked = λ m. at.unmarked (sym (ap (λ (h : History). h.finished) seen_all) ∙ m);
        }

    faults : last.faults ≡ b.faults
    faults = ap (λ (r : Part). r.faults) is

    pub fails : HasFailed a.faults b.faults → HasFailed p.faults last.faults
    fails f = subst (λ n. HasFailed p.faults n) (sym faults) (failed_before p.faults a.faults b.faults entered.found.faults f)

    pub breaks : a.broken ≡ true → HasFailed last.opening.faults last.faults
    breaks e =
        let f = failed_after p.opening.faults a.faults b.faults (entered.found.sound.broken e) did.sound.faults in
        subst (λ n. HasFailed n last.faults) (ap (λ (r : Part). r.opening.faults) (sym whole)) (subst (λ n. HasFailed p.opening.faults n) (sym faults) f)

    pub number_all : s.number ≡ length last.seen.made
    number_all = did.number ∙ sym (ap (λ (h : History). length h.made) seen_all)

    -- the mark stands behind what was seen where it stood as the turn began
    pub closed_all : a.history.finished ≡ true → last.seen.finished ≡ true
    closed_all m = ap (λ (h : History). h.finished) seen_all ∙ finished ∙ m

    pub unmarked_all : last.seen.finished ≡ true → a.history.finished ≢ true → ⊥
    unmarked_all m never = never (sym finished ∙ sym (ap (λ (h : History). h.finished) seen_all) ∙ m)
