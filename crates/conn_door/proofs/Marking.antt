-- Where no refusal of the senders is answered, the pass of one of them has seen the mark.
use Rattle.std.proofs.Common.{◌+◌, ◌≡◌, ◌⊎◌, inl, inr, ℕ, zero, suc, ◌<◌, true, false, List, [], ◌∷◌, length, slice_index_or, All, Option, Some, None, Result, Ok, Err, refl, sym, ap, subst, ◌∙◌, arith}
use Rattle.std.specs.Prelude.{if◌then◌else◌}
use Rattle.std.proofs.lemmas.Bool.{false≢true}
use Rattle.std.proofs.lemmas.List.Elements.{All-cons, All-nil, All-head, All-tail}
use Rattle.jr_dated.specs.declared.journal.Journal.{Ghosts}
use Rattle.jr_boxes.specs.declared.faults.SubmitFault.{SubmitFault}
use Rattle.jr_boxes.specs.declared.faults.SubmitFault.TheVariants as submit
use Rattle.gate_turn.specs.Places.{known}
use Rattle.gate_senders.specs.declared.gate.Gate.{Gate}
use Rattle.gate_staff.specs.Runs.{IsReady, HasNone, IsAdmitted, IsThrough}
use Rattle.gate_staff.specs.Seats.{Seated}
use Rattle.gate_staff.proofs.Seating.{seated_still}
use Rattle.gate_staff.proofs.Leaving.{find_closed}
use Rattle.gate_staff.specs.declared.sender.Sender.{Sender}
use Rattle.conn_door.specs.declared.answer.ServeFault.{ServeFault}
use Rattle.conn_door.specs.declared.answer.ServeFault.TheVariants as faults
use Rattle.conn_door.specs.declared.answer.LifeEnd.{LifeEnd}
use Rattle.conn_door.specs.declared.answer.LifeEnd.TheVariants as ends
use Rattle.conn_door.specs.Answers.{served, answer_of, late_answer, yields, yields_to, IsUnrefused}
use Rattle.conn_door.specs.Senders.{refusal_of, OnlyClosed, IsRefusal, FinishedFirst, SubmittedAll, SomeMarked, EndedSo}

-- a refusal of a sender is never one that yields
firm_submit : (o : Option SubmitFault) (fault : ServeFault) → refusal_of o ≡ Some fault → yields fault ≡ false
firm_submit None fault e = cc
firm_submit (Some submit.Broken) fault e = let s : faults.Journal ≡ fault = cc in ap yields (sym s)
firm_submit (Some submit.Closed) fault e = cc
firm_submit (Some (submit.Full n m)) fault e = let s : faults.Full n m ≡ fault = cc in ap yields (sym s)
firm_submit (Some submit.Memory) fault e = let s : faults.Memory ≡ fault = cc in ap yields (sym s)
firm_submit (Some submit.Fault) fault e = let s : faults.Journal ≡ fault = cc in ap yields (sym s)

module _ {O : Type 0} {H : Ghosts O} where
  marked_at : (after : List (Sender O H)) (i : ℕ) → i < length after → ((d : Sender O H) → (known (slice_index_or after i d).pass).seen.finished ≡ true) → SomeMarked after
  marked_at [] i within seen = absurd (omega (arith, within))
  marked_at (x ∷ xs) i within seen =
      let t : Sender O H = slice_index_or (x ∷ xs) i x in
      record { sender = t; there = (i, within, same (x ∷ xs) i within x t); marked = seen x }
    where
      same : (ys : List (Sender O H)) (k : ℕ) → k < length ys → (d e : Sender O H) → slice_index_or ys k e ≡ slice_index_or ys k d
      same [] k lt d e = absurd (omega (arith, lt))
      same (y ∷ ys) zero lt d e = refl
      same (y ∷ ys) (suc k) lt d e = same ys k (omega (arith, lt)) d e

  pub marked_of : (gate : Gate O H) (before after : List (Sender O H)) → SubmittedAll gate before after None → All IsAdmitted after → 0 < length before → SomeMarked after
  marked_of gate before after s admitted many = by_kind s.finished
    where
      ran_many : 0 < length s.ran
      ran_many = omega (arith, many, s.each.long)

      by_kind : ((after ≡ s.ran) × IsRefusal s.ran None × (0 < length s.ran → (All IsThrough s.ran → ⊥))) ⊎ (All IsThrough s.ran × (0 < length s.ran) × FinishedFirst s.ran after None) → SomeMarked after
      by_kind (inl x) =
          let in_ran : All IsAdmitted s.ran = subst (All IsAdmitted) x.0 admitted in
          let found = find_closed served s.ran x.1 (λ none. x.2 ran_many (λ i d lt. (none i d lt, in_ran i d lt))) in
          subst SomeMarked (sym x.0)
          (marked_at s.ran found.at found.within (λ d. ((s.each.each found.at d (omega (arith, found.within, s.each.long))).refused submit.Closed (found.is d)).shown.closed refl))
      by_kind (inr x) = marked_at after zero (omega (arith, x.1, x.2.long)) (λ d. (x.2.first d).marked refl)

  pub firm_of : (gate : Gate O H) (before after : List (Sender O H)) (f : ServeFault) → SubmittedAll gate before after (Some f) → yields f ≡ false
  firm_of gate before after f s = by_kind s.finished
    where
      by_few : (f ≡ faults.Journal) ⊎ (f ≡ faults.Memory) → yields f ≡ false
      by_few (inl e) = ap yields e
      by_few (inr e) = ap yields e

      by_kind : ((after ≡ s.ran) × IsRefusal s.ran (Some f) × (0 < length s.ran → (All IsThrough s.ran → ⊥))) ⊎ (All IsThrough s.ran × (0 < length s.ran) × FinishedFirst s.ran after (Some f)) → yields f ≡ false
      by_kind (inl x) = firm_submit x.1.sender.refused f x.1.is
      by_kind (inr x) = by_few ((x.2.first (any s.ran x.1)).few f refl)
        where
          any : (xs : List (Sender O H)) → 0 < length xs → Sender O H
          any [] lt = absurd (omega (arith, lt))
          any (y ∷ ys) lt = y

  -- ---- the senders stay in their seats

  finished_seated : (gate : Gate O H) (made : ℕ) (ran after : List (Sender O H)) (refused : Option ServeFault) → All (IsReady gate) after → FinishedFirst ran after refused → Seated gate ran made → Seated gate after made
  finished_seated gate made ran after refused ready f h = record {
    ready = ready;
    numbers = numbers_at;
    first = λ d lt. (f.first d).turn.made ∙ h.first d (omega (arith, lt, f.long));
  }
    where
      numbers_at : (i : ℕ) (d : Sender O H) → i < length after → (known (slice_index_or after i d).pass).number ≡ i + 1
      numbers_at zero d lt = (f.first d).turn.number ∙ h.numbers zero d (omega (arith, lt, f.long))
      numbers_at (suc i) d lt = ap (λ (s : Sender O H). (known s.pass).number) (f.others (suc i) d (omega arith)) ∙ h.numbers (suc i) d (omega (arith, lt, f.long))

  pub seated_after : (gate : Gate O H) (made : ℕ) (before after : List (Sender O H)) (refused : Option ServeFault) → SubmittedAll gate before after refused → Seated gate before made → Seated gate after made
  seated_after gate made before after refused s h = by_kind s.finished
    where
      ran_seated : Seated gate s.ran made
      ran_seated = seated_still gate made before s.ran s.each h

      by_kind : ((after ≡ s.ran) × IsRefusal s.ran refused × (0 < length s.ran → (All IsThrough s.ran → ⊥))) ⊎ (All IsThrough s.ran × (0 < length s.ran) × FinishedFirst s.ran after refused) → Seated gate after made
      by_kind (inl x) = subst (λ (l : List (Sender O H)). Seated gate l made) (sym x.0) ran_seated
      by_kind (inr x) = finished_seated gate made s.ran after refused s.ready x.2 ran_seated

-- one that does not yield to some refusal is none that yields to each
firm_to : (e f : ServeFault) → yields_to e f ≡ false → yields e ≡ false
firm_to faults.Output f is = refl
firm_to faults.Journal f is = refl
firm_to (faults.Changed which at) f is = refl
firm_to faults.Dial f is = refl
firm_to (faults.Unfinished phase) f is = is
firm_to (faults.Rejected template code) f is = is
firm_to (faults.Full entries bytes) f is = refl
firm_to faults.Turns f is = is
firm_to faults.Memory f is = refl

pub unanswered : (connections : Result LifeEnd ServeFault) (f : ServeFault) → yields f ≡ false → IsUnrefused (answer_of connections (Some f)) → ⊥
unanswered (Ok ends.Finished) f firm u = false≢true (sym firm ∙ u)
unanswered (Ok ends.Stopped) f firm u = false≢true (sym firm ∙ u)
unanswered (Err e) f firm u = by_kind (yields_to e f) refl u
  where
    by_kind : (b : _) → yields_to e f ≡ b → IsUnrefused (if b then Err f else Err e) → ⊥
    by_kind true is u = false≢true (sym firm ∙ u)
    by_kind false is u = false≢true (sym (firm_to e f is) ∙ u)

-- where no refusal is answered, and nothing failed, there was none
none_met : {O : Type 0} {H : Ghosts O} (gate : Gate O H) (before after : List (Sender O H)) (connections : Result LifeEnd ServeFault) (refused : Option ServeFault) → SubmittedAll gate before after refused
    → IsUnrefused (answer_of connections refused) → refused ≡ None
none_met gate before after connections None s u = refl
none_met gate before after connections (Some f) s u = absurd (unanswered connections f (firm_of gate before after f s) u)

-- a late refusal is answered where none was
late_is : (connections : Result LifeEnd ServeFault) (f : ServeFault) → IsUnrefused (answer_of connections None) → answer_of connections (Some f) ≡ Err f
late_is (Ok ends.Finished) f u = refl
late_is (Ok ends.Stopped) f u = refl
late_is (Err faults.Output) f u = absurd (false≢true u)
late_is (Err faults.Journal) f u = absurd (false≢true u)
late_is (Err (faults.Changed which at)) f u = absurd (false≢true u)
late_is (Err faults.Dial) f u = absurd (false≢true u)
late_is (Err (faults.Unfinished phase)) f u = refl
late_is (Err (faults.Rejected template code)) f u = refl
late_is (Err (faults.Full entries bytes)) f u = absurd (false≢true u)
late_is (Err faults.Turns) f u = refl
late_is (Err faults.Memory) f u = absurd (false≢true u)

module _ {O : Type 0} {H : Ghosts O} (gate : Gate O H) (before middle after : List (Sender O H)) (connections : Result LifeEnd ServeFault) (refused : Option ServeFault) (answer : Result (Unit {0}) ServeFault)
    (s : SubmittedAll gate before middle refused) (is : answer ≡ answer_of connections refused) where
  pub ended_kept : (IsUnrefused answer → ⊥) → EndedSo gate before middle connections answer
  ended_kept never = record { refused = refused; submitted = s; answer = is; admitted = λ u. absurd (never u) }

  pub ended_late : (late : Option ServeFault) (result : Result (Unit {0}) ServeFault) → IsUnrefused answer → (SubmittedAll gate before middle None → SubmittedAll gate before after late) → (late ≡ None → All IsAdmitted after)
      → result ≡ late_answer answer late → EndedSo gate before after connections result
  ended_late late result u goes admitted ends_so = by_late late refl
    where
      none : refused ≡ None
      none = none_met gate before middle connections refused s (subst IsUnrefused is u)

      was : answer ≡ answer_of connections None
      was = is ∙ ap (answer_of connections) none

      more : SubmittedAll gate before after late
      more = goes (subst (SubmittedAll gate before middle) none s)

      by_late : (o : Option ServeFault) → late ≡ o → EndedSo gate before after connections result
      by_late None e = record {
        refused = None;
        submitted = subst (SubmittedAll gate before after) e more;
        answer = ends_so ∙ (ap (late_answer answer) e ∙ was);
        admitted = λ _. admitted e;
      }
      by_late (Some f) e =
          let refusal : result ≡ Err f = ends_so ∙ ap (late_answer answer) e in
          let all : SubmittedAll gate before after (Some f) = subst (SubmittedAll gate before after) e more in
          record {
            refused = Some f;
            submitted = all;
            answer = refusal ∙ sym (late_is connections f (subst IsUnrefused was u));
            admitted = λ v. let y : yields f ≡ true = subst IsUnrefused refusal v in absurd (false≢true (sym (firm_of gate before after f all) ∙ y));
          }
