-- What all desks leave together: p before, m once each answered its share, q once the mark was added.
use Rattle.std.proofs.Common.{◌≡◌, ◌≢◌, ◌⊎◌, ℕ, zero, suc, ◌+◌, ◌-◌, ◌<◌, ◌≤◌, Bool, true, false, List, [], ◌∷◌, ◌++◌, length, take, drop, slice_get, Some, Result, Ok, Err, OnOk, inl, inr, refl, sym, ap, subst, ◌∙◌, arith, append-nil, length-append}
use mathlib.Core.List.{IsPrefix}
use Rattle.session_model.specs.Journal.{Entry, finish}
use Rattle.jr_boxes.specs.declared.faults.SubmitFault.{SubmitFault}
use Rattle.jr_boxes.specs.declared.faults.SubmitFault.TheVariants as submit
use Rattle.gate_turn.specs.Views.{Part}
use Rattle.gate_turn.specs.Rule.{In}
use Rattle.gate_staff.specs.Sent.{entries_behind, IsShown, HasLost}
use Rattle.gate_staff.specs.Made.{MadeOf, IsAllMade, LosesMessages, SeesMark, MetFull}
use Rattle.gate_staff.specs.Business.{StaysPass, AllMade, Loses, Grew, Whole, ShownByOne, StandsOn, LoseNothing, Answered}
use Rattle.std.proofs.lemmas.List.{drop_all, drop-drop}
use Rattle.gate_staff.proofs.Making.{made_of, length-entries}
use Rattle.order_gate.specs.Reported.{RefusedAt, Reported, LosesFinish, Finishing}
use Rattle.gate_turn.proofs.Failing.{failed_before}
use Rattle.gate_staff.proofs.Resuming.{stays_self, stays_on}
use Rattle.gate_staff.proofs.Seeing.{sees_still}
use Rattle.order_gate.proofs.Parts.{drop_over}

-- a desk sent what comes next of its plan
pub record Sends (plan : List (List ℕ)) (n : ℕ) (p m : Part) (answer : Result (Unit {0}) SubmitFault) : Type 0 where
  pub number : p.number ≡ n
  pub reported : Reported p m (drop (length p.mine) plan) answer

-- what was sent of the earlier messages is not sent again
pub behind_owed : (before next : List (List ℕ)) (made owed : ℕ) → length before ≤ made → owed ≡ made - length before → drop owed next ≡ drop made (before ++ next)
behind_owed before next made owed least e = ap (λ k. drop k next) e ∙ sym (drop_over made before next ∙ ap (λ xs. xs ++ drop (made - length before) next) (dropped made before least))
  where
    dropped : (n : ℕ) (xs : List (List ℕ)) → length xs ≤ n → drop n xs ≡ []
    dropped n xs few = drop_all n xs few

-- of a list with this beginning, the element behind it
get_behind : (xs : List (List ℕ)) (n k : ℕ) (sent more : List (List ℕ)) (x : List ℕ) → drop n xs ≡ sent ++ x ∷ more → k ≡ n + length sent → slice_get xs k ≡ Some x
get_behind xs n k sent more x e is = at_more xs n k (length sent) x (drop_get (drop n xs) sent more x e) is
  where
    drop_get : (ys sent more : List (List ℕ)) (x : List ℕ) → ys ≡ sent ++ x ∷ more → slice_get ys (length sent) ≡ Some x
    drop_get ys [] more x e = ap (λ zs. slice_get zs 0) e
    drop_get [] (s ∷ sent) more x e = absurd (cc e)
    drop_get (y ∷ ys) (s ∷ sent) more x e = drop_get ys sent more x (cc e)

    at_more : (xs : List (List ℕ)) (n k j : ℕ) (x : List ℕ) → slice_get (drop n xs) j ≡ Some x → k ≡ n + j → slice_get xs k ≡ Some x
    at_more xs zero k j x h is = let e : k ≡ j = omega (arith, is) in ap (λ i. slice_get xs i) e ∙ h
    at_more [] (suc n) k j x h is = absurd (cc h)
    at_more (y ∷ xs) (suc n) zero j x h is = absurd (omega (arith, is))
    at_more (y ∷ xs) (suc n) (suc k) j x h is = at_more xs n k j x h (omega (arith, is))

pub stays : (p m : Part) (next : List (List ℕ)) (result : Result (Unit {0}) SubmitFault) → Reported p m next result → StaysPass p m
stays p m next result r = record { seen = r.pass.seen; own = r.own; faults = r.pass.faults; number = r.pass.number; made = r.pass.made; opening = r.pass.opening }

finish_stays : (m q : Part) (result : Result (Unit {0}) SubmitFault) → Finishing m q result → StaysPass m q
finish_stays m q result f = record {
  seen = f.turn.seen;
  own = sees_still m q f.turn.seen f.mine;
  faults = f.turn.faults;
  number = f.turn.number;
  made = f.turn.made;
  opening = f.turn.opening;
}

-- each is the same pass, once that of number 1 was used for the mark
pub all_finished : (count : ℕ) (p m q : ℕ → Part) (result : Result (Unit {0}) SubmitFault) → ((n : ℕ) → In count n → StaysPass (p n) (m n)) → Finishing (m 1) (q 1) result → ((n : ℕ) → n ≢ 1 → q n ≡ m n)
    → (n : ℕ) → In count n → StaysPass (p n) (q n)
all_finished count p m q result same fin others zero inside = absurd (omega (arith, inside.from_one))
all_finished count p m q result same fin others (suc zero) inside = stays_on (p 1) (m 1) (q 1) (same 1 inside) (finish_stays (m 1) (q 1) result fin)
all_finished count p m q result same fin others (suc (suc k)) inside =
    subst (λ x. StaysPass (p (suc (suc k))) x) (sym (others (suc (suc k)) (λ e. omega (arith, e)))) (same (suc (suc k)) inside)

module _ (plan : List (List ℕ)) (n : ℕ) (p m : Part) (answer : Result (Unit {0}) SubmitFault) (s : Sends plan n p m answer) where
  pub sends_made : MadeOf p.mine n plan m.mine
  sends_made = made_of p.mine n plan m.mine (record {
    more = s.reported.sent;
    are = s.reported.mine ∙ ap (λ k. p.mine ++ entries_behind k (length p.mine) s.reported.sent) s.number;
    planned = (s.reported.rest, sym s.reported.are);
  })

  pub sends_all : answer ≡ Ok tt → IsAllMade p.mine n plan m.mine
  sends_all e =
      s.reported.mine ∙ ap (λ k. p.mine ++ entries_behind k (length p.mine) s.reported.sent) s.number
      ∙ ap (λ xs. p.mine ++ entries_behind n (length p.mine) xs) (sym (s.reported.are ∙ ap (λ xs. s.reported.sent ++ xs) (at_ok answer e s.reported.whole) ∙ append-nil s.reported.sent))
    where
      at_ok : (r : Result (Unit {0}) SubmitFault) {A : Type 0} → r ≡ Ok tt → OnOk r A → A
      at_ok (Ok _) e a = a
      at_ok (Err f) e a = absurd (cc e)

  long : length m.mine ≡ length p.mine + length s.reported.sent
  long =
      ap length s.reported.mine ∙ length-append p.mine (entries_behind p.number (length p.mine) s.reported.sent)
      ∙ ap (λ k. length p.mine + k) (length-entries p.number (length p.mine) s.reported.sent)

  -- the message that was refused is the next of the plan
  pub next_is : (f : SubmitFault) → (r : RefusedAt p m s.reported.rest f) → slice_get plan (length m.mine) ≡ Some r.payload
  next_is f r = get_behind plan (length p.mine) (length m.mine) s.reported.sent r.more r.payload (s.reported.are ∙ ap (λ xs. s.reported.sent ++ xs) r.first) long

  -- what was not sent is what is behind it in the plan
  rest_is : s.reported.rest ≡ drop (length m.mine) plan
  rest_is =
      sym (dropped s.reported.sent s.reported.rest) ∙ ap (λ xs. drop (length s.reported.sent) xs) (sym s.reported.are) ∙ drop-drop (length s.reported.sent) (length p.mine) plan
      ∙ ap (λ k. drop k plan) (sym long)
    where
      dropped : (xs ys : List (List ℕ)) → drop (length xs) (xs ++ ys) ≡ ys
      dropped [] ys = refl
      dropped (x ∷ xs) ys = dropped xs ys

  pub loses : answer ≡ Err submit.Fault → (m.broken ≡ true) × (m.seen.finished ≢ true) × LosesMessages plan m
  loses e =
      let r = s.reported.refused submit.Fault e (λ x. cc x) in
      let l = subst (λ xs. HasLost m xs) rest_is (r.lost refl) in
      (l.broken, l.unmarked, record { count = l.count; within = l.within; few = l.few; is = l.lost })

-- an answer is that of a failed call, or not
pub is_fault : (r : Result (Unit {0}) SubmitFault) → (r ≡ Err submit.Fault) ⊎ (r ≡ Err submit.Fault → ⊥)
is_fault (Ok _) = inr (λ e. cc e)
is_fault (Err submit.Fault) = inl refl
is_fault (Err submit.Broken) = inr (λ e. cc e)
is_fault (Err submit.Memory) = inr (λ e. cc e)
is_fault (Err submit.Closed) = inr (λ e. cc e)
is_fault (Err (submit.Full es bs)) = inr (λ e. cc e)

module _ (plan : ℕ → List (List ℕ)) (count : ℕ) (p m : ℕ → Part) (answer : ℕ → Result (Unit {0}) SubmitFault) (sends : (n : ℕ) → In count n → Sends (plan n) n (p n) (m n) (answer n)) where
  pub all_grew : (finished : Bool) → Grew plan count p m finished
  all_grew finished = record {
    same = λ n inside. stays (p n) (m n) (drop (length (p n).mine) (plan n)) (answer n) (sends n inside).reported;
    each = λ n inside. sends_made (plan n) n (p n) (m n) (answer n) (sends n inside);
    ended = λ n inside e. inl (sym (sends n inside).reported.pass.ended ∙ e);
    lost = λ n inside. lost n inside (is_fault (answer n));
  }
    where
      lost : (n : ℕ) → In count n → (answer n ≡ Err submit.Fault) ⊎ (answer n ≡ Err submit.Fault → ⊥) → ((m n).lost ≡ (p n).lost) ⊎ Loses plan count p m finished n
      lost n inside (inl e) = let l = loses (plan n) n (p n) (m n) (answer n) (sends n inside) e in inr (record { broken = l.0; unmarked = l.1; unmade = λ k at x. sym (sends k at).reported.pass.ended ∙ x; what = inl l.2 })
      lost n inside (inr un) = inl ((sends n inside).reported.unlost un)

  pub all_whole : ((n : ℕ) → In count n → answer n ≡ Ok tt) → AllMade plan count p m
  all_whole ok = λ n inside. sends_all (plan n) n (p n) (m n) (answer n) (sends n inside) (ok n inside)

  pub none_lost : ((n : ℕ) → In count n → (answer n ≡ Ok tt) ⊎ (answer n ≡ Err submit.Closed)) → LoseNothing count p m
  none_lost quiet = λ n inside. (sends n inside).reported.unlost (λ e. not_both (quiet n inside) e)
    where
      not_both : {r : Result (Unit {0}) SubmitFault} → (r ≡ Ok tt) ⊎ (r ≡ Err submit.Closed) → r ≡ Err submit.Fault → ⊥
      not_both (inl a) e = cc (a, e)
      not_both (inr a) e = cc (a, e)

  -- none was refused, and no mark is due
  pub answered_ok : (finished : Bool) → ((n : ℕ) → In count n → answer n ≡ Ok tt) → (0 < count → finished ≡ true → ⊥) → Answered plan count p m finished (Ok tt)
  answered_ok finished ok none = record {
    grew = all_grew finished;
    whole = record { all = inr (all_whole ok); finish = λ some done. absurd (none some done) };
    full = λ es bs e. absurd (cc e);
    unlost = none_lost (λ n inside. inl (ok n inside));
  }

  -- one was refused
  module _ (n : ℕ) (inside : In count n) (f : SubmitFault) (is : answer n ≡ Err f) where
    pub shown_by : f ≢ submit.Memory → ShownByOne count p m f
    shown_by ne =
        let r = (sends n inside).reported.refused f is ne in
        record { number = n; inside = inside; closed = r.shown.closed; failed = r.shown.failed; broken = r.shown.broken }

    full_at : (es bs : ℕ) → f ≡ submit.Full es bs → MetFull plan count m es bs
    full_at es bs e =
        let r = (sends n inside).reported.refused f is (λ x. cc (x, e)) in
        record { number = n; inside = inside; payload = r.payload; next = next_is (plan n) n (p n) (m n) (answer n) (sends n inside) f r; full = r.shown.full es bs e }

    pub answered_refused : (finished : Bool) → (f ≡ submit.Closed → (k : ℕ) → In count k → (answer k ≡ Ok tt) ⊎ (answer k ≡ Err submit.Closed)) → Answered plan count p m finished (Err f)
    answered_refused finished quiet = record { grew = all_grew finished; whole = tt; full = λ es bs e. full_at es bs (cc e); unlost = unlost f refl }
      where
        unlost : (g : SubmitFault) → g ≡ f → StandsOn (Err g) (LoseNothing count p m)
        unlost submit.Closed e = none_lost (quiet (sym e))
        unlost submit.Broken e = tt
        unlost submit.Memory e = tt
        unlost submit.Fault e = tt
        unlost (submit.Full es bs) e = tt

-- desk 1 added the mark, once each sent all of its plan
module _ (plan : ℕ → List (List ℕ)) (count : ℕ) (p m q : ℕ → Part) (answer : ℕ → Result (Unit {0}) SubmitFault) (sends : (n : ℕ) → In count n → Sends (plan n) n (p n) (m n) (answer n))
    (ok : (n : ℕ) → In count n → answer n ≡ Ok tt) (one : In count 1) (result : Result (Unit {0}) SubmitFault) (fin : Finishing (m 1) (q 1) result) (others : (n : ℕ) → n ≢ 1 → q n ≡ m n) where
  -- what holds of desk 1 by its call, and of the others since they are as they were
  by_number : (P : ℕ → Part → Type 0) → P 1 (q 1) → ((n : ℕ) → In count n → n ≢ 1 → P n (m n)) → (n : ℕ) → In count n → P n (q n)
  by_number P first rest zero inside = absurd (omega (arith, inside.from_one))
  by_number P first rest (suc zero) inside = first
  by_number P first rest (suc (suc k)) inside =
      let ne : suc (suc k) ≢ 1 = λ e. omega (arith, e) in
      subst (λ x. P (suc (suc k)) x) (sym (others (suc (suc k)) ne)) (rest (suc (suc k)) inside ne)

  pass_of : (n : ℕ) → In count n → StaysPass (p n) (m n)
  pass_of n inside = stays (p n) (m n) (drop (length (p n).mine) (plan n)) (answer n) (sends n inside).reported

  finished_same : (n : ℕ) → In count n → StaysPass (p n) (q n)
  finished_same = all_finished count p m q result pass_of fin others

  finished_all : AllMade plan count p q
  finished_all =
      let all = all_whole plan count p m answer sends ok in
      by_number (λ n x. IsAllMade (p n).mine n (plan n) x.mine) (fin.mine ∙ all 1 one) (λ n inside ne. all n inside)

  finished_made : (n : ℕ) → In count n → MadeOf (p n).mine n (plan n) (q n).mine
  finished_made =
      let made : (n : ℕ) → In count n → MadeOf (p n).mine n (plan n) (m n).mine = λ n inside. sends_made (plan n) n (p n) (m n) (answer n) (sends n inside) in
      by_number (λ n x. MadeOf (p n).mine n (plan n) x.mine) (subst (λ es. MadeOf (p 1).mine 1 (plan 1) es) (sym fin.mine) (made 1 one)) (λ n inside ne. made n inside)

  still : (n : ℕ) → In count n → (m n).lost ≡ (p n).lost
  still = none_lost plan count p m answer sends (λ n inside. inl (ok n inside))

  kept : (n : ℕ) → In count n → (m n).ended ≡ (p n).ended
  kept n inside = (sends n inside).reported.pass.ended

  unmade : (q 1).ended ≡ (m 1).ended → (k : ℕ) → In count k → (q k).ended ≡ true → (p k).ended ≡ true
  unmade same = by_number (λ k x. x.ended ≡ true → (p k).ended ≡ true) (λ e. sym (same ∙ kept 1 one) ∙ e) (λ k inside ne e. sym (kept k inside) ∙ e)

  finished_lost : (n : ℕ) → In count n → ((q n).lost ≡ (p n).lost) ⊎ Loses plan count p q true n
  finished_lost zero inside = absurd (omega (arith, inside.from_one))
  finished_lost (suc zero) inside = first fin.lost
    where
      first : ((q 1).lost ≡ (m 1).lost) ⊎ LosesFinish (m 1) (q 1) → ((q 1).lost ≡ (p 1).lost) ⊎ Loses plan count p q true 1
      first (inl e) = inl (e ∙ still 1 one)
      first (inr l) = inr (record { broken = l.broken; unmarked = l.unmarked; unmade = unmade l.ended; what = inr (l.lost, refl, finished_all) })
  finished_lost (suc (suc k)) inside = inl (ap (λ (x : Part). x.lost) (others (suc (suc k)) (λ e. omega (arith, e))) ∙ still (suc (suc k)) inside)

  finished_grew : Grew plan count p q true
  finished_grew = record { same = finished_same; each = finished_made; ended = λ n inside e. inr (refl, finished_all); lost = finished_lost }

  marked_none_lost : (q 1).seen.finished ≡ true → LoseNothing count p q
  marked_none_lost marked = by_number (λ n x. x.lost ≡ (p n).lost) (first fin.lost) (λ n inside ne. still n inside)
    where
      first : ((q 1).lost ≡ (m 1).lost) ⊎ LosesFinish (m 1) (q 1) → (q 1).lost ≡ (p 1).lost
      first (inl e) = e ∙ still 1 one
      first (inr l) = absurd (l.unmarked marked)

  marked_ok : result ≡ Ok tt → (q 1).seen.finished ≡ true
  marked_ok e = at_ok result e fin.marked
    where
      at_ok : (r : Result (Unit {0}) SubmitFault) {A : Type 0} → r ≡ Ok tt → OnOk r A → A
      at_ok (Ok _) e a = a
      at_ok (Err f) e a = absurd (cc e)

  pub sees_mark : result ≡ Ok tt → SeesMark count q
  sees_mark e = record { number = 1; inside = one; marked = marked_ok e }

  pub answered_finish : Answered plan count p q true result
  answered_finish = record {
    grew = finished_grew;
    whole = whole result refl;
    full = λ es bs e. absurd (fin.unfilled es bs e);
    unlost = unlost result refl;
  }
    where
      whole : (r : Result (Unit {0}) SubmitFault) → r ≡ result → OnOk r (Whole plan count p q true)
      whole (Ok _) e = let s = sees_mark (sym e) in record { all = inl s; finish = λ some done. s }
      whole (Err f) e = tt

      unlost : (r : Result (Unit {0}) SubmitFault) → r ≡ result → StandsOn r (LoseNothing count p q)
      unlost (Ok _) e = marked_none_lost (marked_ok (sym e))
      unlost (Err submit.Closed) e = absurd (fin.unclosed (sym e))
      unlost (Err submit.Broken) e = tt
      unlost (Err submit.Memory) e = tt
      unlost (Err submit.Fault) e = tt
      unlost (Err (submit.Full es bs)) e = tt

  pub finish_shown : (f : SubmitFault) → result ≡ Err f → ShownByOne count p q f
  finish_shown f is = record {
    number = 1;
    inside = one;
    closed = λ e. absurd (fin.unclosed (is ∙ ap Err e));
    failed = λ e. failed_before (p 1).faults (m 1).faults (q 1).faults (pass_of 1 one).faults (fin.failed (is ∙ ap Err e));
    broken = λ e. fin.broken (is ∙ ap Err e);
  }

-- a refusal is shown, whatever was to be sent
pub shown_of : (count : ℕ) (p m : ℕ → Part) (n : ℕ) → In count n → (f : SubmitFault) (next : List (List ℕ)) (result : Result (Unit {0}) SubmitFault) → result ≡ Err f → Reported (p n) (m n) next result → f ≢ submit.Memory → ShownByOne count p m f
shown_of count p m n inside f next result is r ne =
    let x = r.refused f is ne in
    record { number = n; inside = inside; closed = x.shown.closed; failed = x.shown.failed; broken = x.shown.broken }

-- where nothing was called
pub answered_idle : (plan : ℕ → List (List ℕ)) (count : ℕ) (p : ℕ → Part) (finished : Bool) → SeesMark count p → Answered plan count p p finished (Ok tt)
answered_idle plan count p finished s = record {
  grew = record {
    same = λ n inside. stays_self (p n);
    each = λ n inside. record { count = 0; are = sym (append-nil (p n).mine) };
    ended = λ n inside e. inl e;
    lost = λ n inside. inl refl;
  };
  whole = record { all = inl s; finish = λ some done. s };
  full = λ es bs e. absurd (cc e);
  unlost = λ n inside. refl;
}
