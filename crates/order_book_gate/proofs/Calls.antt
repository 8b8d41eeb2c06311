-- What a call leaves of a book desk: b before it, c once the messages were taken, d once the mark was added.
use Rattle.std.proofs.Common.{◌≡◌, ◌≢◌, ◌⊎◌, ◌==◌, if◌then◌else◌, rules, ℕ, zero, suc, ◌+◌, ◌-◌, ◌≤◌, Bool, true, false, List, [], ◌++◌, length, drop, Result, Ok, Err, OnOk, inl, inr, refl, sym, ap, subst, ◌∙◌, arith, append-nil, length-append}
use Rattle.std.proofs.lemmas.List.{length-drop}
use Rattle.atomic_table.specs.Seated.{TableId}
use Rattle.jr_dated.specs.declared.journal.Journal.{Ghosts}
use Rattle.jr_boxes.specs.declared.faults.SubmitFault.{SubmitFault}
use Rattle.jr_boxes.specs.declared.faults.SubmitFault.TheVariants as submit
use Rattle.gate_turn.specs.Views.{Part, new_part, nothing}
use Rattle.gate_turn.specs.Rule.{In}
use Rattle.gate_turn.specs.Listed.{known_if}
use Rattle.gate_turn.proofs.Failing.{failed_before}
use Rattle.gate_staff.proofs.Resuming.{stays_self}
use Rattle.gate_staff.specs.Business.{StaysPass, AllStay, ShownByOne, StandsOn, Answered}
use Rattle.order_gate.specs.declared.desk.Desk.{Desk}
use Rattle.order_gate.specs.Reported.{Reported, Finishing}
use Rattle.order_gate.specs.Desks.{known_of, IsSeated, IsManned}
use Rattle.order_gate.proofs.Parts.{long_of}
use Rattle.order_gate.proofs.Sending.{on_ok}
use Rattle.order_gate.proofs.Answering.{Sends, stays, all_finished, behind_owed, shown_of, answered_ok, answered_refused, answered_idle, answered_finish}
use Rattle.order_book_gate.specs.declared.book_desk.BookDesk.{BookDesk}
use Rattle.order_book_gate.specs.Plan.{answers, resting_behind}
use Rattle.order_book_gate.specs.Desk.{part_of, plan_of, HasPass, IsAble, StandsAt, StandsBehind, Took}
use Rattle.order_book_gate.specs.Standing.{answers_on, resting_on, meets}

pub one : In 1 1
one = record { from_one = omega arith; up_to = omega arith }

-- what holds of its only pass holds of each
pub only : (P : ℕ → Type 0) → P 1 → (n : ℕ) → In 1 n → P n
only P first zero inside = absurd (omega (arith, inside.from_one))
only P first (suc zero) inside = first
only P first (suc (suc k)) inside = absurd (omega (arith, inside.up_to))

-- and of no number but its own
other_same : (p q : Part) (n : ℕ) → n ≢ 1 → (if n == 1 then p else new_part 0 0 nothing) ≡ (if n == 1 then q else new_part 0 0 nothing)
other_same p q n ne = search (rules, ne)

-- a refusal, by what stands behind it
refused_on : (f : SubmitFault) (A : Type 0) → (f ≡ submit.Closed → A) → StandsOn (Err f) A
refused_on submit.Closed A a = a refl
refused_on submit.Broken A a = tt
refused_on submit.Memory A a = tt
refused_on submit.Fault A a = tt
refused_on (submit.Full es bs) A a = tt

module _ {J : Type 0} {G : Ghosts J} where
  pub seated_still : (lock : TableId) (k : Desk J G) → IsManned lock k → IsSeated lock k
  seated_still lock k m = record { pass = m.pass; there = m.there; own = m.own; free = m.free; number = m.number }

  pub is_plan : (b : BookDesk J G) (l : List (List ℕ)) → plan_of b 1 l ≡ answers b.form.plan [] l
  is_plan b l = ap (λ p. answers p [] l) (sym b.form.planned)

  pub able_of : (lock : TableId) (senders : ℕ) (b : BookDesk J G) → HasPass lock b → b.counted ≡ true → 1 ≤ senders → IsAble lock senders b
  able_of lock senders b has counted few = let number = has.number in record {
    ready = record { manned = has.made counted; sender = omega (arith, number, few); few = record { from_one = omega (arith, number); up_to = omega (arith, number) } };
    number = number;
    rested = has.rested;
  }

  -- it has its pass, where no mark was met, or the pass has seen it
  pub pass_of : (lock : TableId) (senders : ℕ) (c : BookDesk J G) → IsAble lock senders c → (met : Bool) → (met ≡ true → (known_of c.desk).seen.finished ≡ true) → HasPass lock (record c { met = met })
  pass_of lock senders c able met sees = record {
    seated = seated_still lock c.desk able.ready.manned;
    number = able.number;
    made = λ e. able.ready.manned;
    met = sees;
    rested = able.rested;
  }

  -- ---- where it does nothing

  pub idle : (lock : TableId) (b : BookDesk J G) → HasPass lock b → (b.met ≡ true) ⊎ (b.counted ≡ false) → (l more : List (List ℕ)) → StandsBehind b l → (finished : Bool)
      → Answered (λ n. plan_of b n (l ++ more)) 1 (part_of b) (part_of b) finished (Ok tt)
  idle lock b has (inl met) l more st finished = answered_idle (λ n. plan_of b n (l ++ more)) 1 (part_of b) finished (meets b lock has met)
  idle lock b has (inr un) l more st finished = absurd (cc (un, st.counted))

  pub idle_stay : (b : BookDesk J G) → AllStay 1 (part_of b) (part_of b)
  idle_stay b = λ n inside. stays_self (part_of b n)

  pub idle_stands : (b : BookDesk J G) → (b.met ≡ true) ⊎ (b.counted ≡ false) → (l more : List (List ℕ)) → StandsBehind b l → StandsBehind b (l ++ more)
  idle_stands b (inl met) l more st = record { counted = st.counted; there = inl met }
  idle_stands b (inr un) l more st = absurd (cc (un, st.counted))

  -- ---- what was taken

  module _ (lock : TableId) (senders : ℕ) (payloads : List (List ℕ)) (b c : BookDesk J G) (has : HasPass lock b) (counted : b.counted ≡ true) (unmet : b.met ≡ false) (answer : Result (Unit {0}) SubmitFault)
      (t : Took lock senders payloads b c answer) where
    abbrev pub next : List (List ℕ)
    next = answers b.form.plan b.book payloads

    had : length (known_of b.desk).mine ≡ b.desk.made
    had = let m = has.made counted in ap (λ p. length (known_if p).mine) m.there ∙ m.made

    stood : (l : List (List ℕ)) → StandsBehind b l → StandsAt b l
    stood l st = of st.there
      where
        of : (b.met ≡ true) ⊎ StandsAt b l → StandsAt b l
        of (inl met) = absurd (cc (met, unmet))
        of (inr at) = at

    module _ (l : List (List ℕ)) (st : StandsBehind b l) where
      at : StandsAt b l
      at = stood l st

      whole : answers b.form.plan [] (l ++ payloads) ≡ answers b.form.plan [] l ++ next
      whole = answers_on b.form.plan [] l payloads ∙ ap (λ rs. answers b.form.plan [] l ++ answers b.form.plan rs payloads) (sym at.resting)

      owed_is : drop b.desk.owed next ≡ drop (length (known_of b.desk).mine) (plan_of b 1 (l ++ payloads))
      owed_is =
          behind_owed (answers b.form.plan [] l) next b.desk.made b.desk.owed at.least at.owed ∙ ap (λ k. drop k (answers b.form.plan [] l ++ next)) (sym had)
          ∙ ap (λ xs. drop (length (known_of b.desk).mine) xs) (sym whole ∙ sym (is_plan b (l ++ payloads)))

      first_sends : Sends (plan_of b 1 (l ++ payloads)) 1 (part_of b 1) (part_of c 1) answer
      first_sends = record {
        number = ap (λ p. (known_if p).number) has.seated.there ∙ has.seated.number ∙ has.number;
        reported = subst (λ xs. Reported (known_of b.desk) (known_of c.desk) xs answer) owed_is t.reported;
      }

      pub sends : (n : ℕ) → In 1 n → Sends (plan_of b n (l ++ payloads)) n (part_of b n) (part_of c n) answer
      sends = only (λ n. Sends (plan_of b n (l ++ payloads)) n (part_of b n) (part_of c n) answer) first_sends

      made_more : answer ≡ Ok tt → c.desk.made ≡ b.desk.made + length (drop b.desk.owed next)
      made_more ok =
          let m = t.able.ready.manned in
          let r = t.reported in
          let rest = on_ok answer (r.rest ≡ []) ok r.whole in
          sym (ap (λ p. length (known_if p).mine) m.there ∙ m.made) ∙ long_of (known_of b.desk) (known_of c.desk) (drop b.desk.owed next) answer r ∙ ap (λ k. k + length r.sent) had
          ∙ ap (λ xs. b.desk.made + length xs) (sym (r.are ∙ ap (λ zs. r.sent ++ zs) rest ∙ append-nil r.sent))

      now_plan : answers c.form.plan [] (l ++ payloads) ≡ answers b.form.plan [] l ++ next
      now_plan = ap (λ f. answers f.plan [] (l ++ payloads)) t.same.form ∙ whole

      pub ok_stands : answer ≡ Ok tt → StandsBehind c (l ++ payloads)
      ok_stands ok =
          let sum = ap length now_plan ∙ length-append (answers b.form.plan [] l) next in
          let made = made_more ok in
          let dropped = length-drop b.desk.owed next in
          let owed = on_ok answer (c.desk.owed ≡ b.desk.owed - length next) ok t.owed in
          let owed_b = at.owed in
          let least = at.least in
          record {
            counted = t.same.counted ∙ counted;
            there = inr (record {
              resting = on_ok answer (c.book ≡ resting_behind b.form.plan b.book payloads) ok t.resting ∙ ap (λ rs. resting_behind b.form.plan rs payloads) at.resting
                  ∙ sym (resting_on b.form.plan [] l payloads) ∙ ap (λ f. resting_behind f.plan [] (l ++ payloads)) (sym t.same.form);
              least = omega (arith, sum, made, dropped, owed_b, least);
              owed = omega (arith, sum, made, dropped, owed, owed_b, least);
            });
          }

      pub ok_answered : answer ≡ Ok tt → (finished : Bool) → (finished ≡ true → ⊥) → Answered (λ n. plan_of b n (l ++ payloads)) 1 (part_of b) (part_of c) finished (Ok tt)
      ok_answered ok finished never = answered_ok (λ n. plan_of b n (l ++ payloads)) 1 (part_of b) (part_of c) (λ n. answer) sends finished (λ n inside. ok) (λ some. never)

      pub err_answered : (f : SubmitFault) → answer ≡ Err f → (finished : Bool) → Answered (λ n. plan_of b n (l ++ payloads)) 1 (part_of b) (part_of c) finished (Err f)
      err_answered f is finished =
          answered_refused (λ n. plan_of b n (l ++ payloads)) 1 (part_of b) (part_of c) (λ n. answer) sends 1 one f is finished (λ closed k inside. inr (is ∙ ap Err closed))

      -- the mark was added
      pub finish_answered : (d : BookDesk J G) (result : Result (Unit {0}) SubmitFault) → answer ≡ Ok tt → Finishing (part_of c 1) (part_of d 1) result → Answered (λ n. plan_of b n (l ++ payloads)) 1 (part_of b) (part_of d) true result
      finish_answered d result ok fin =
          answered_finish (λ n. plan_of b n (l ++ payloads)) 1 (part_of b) (part_of c) (part_of d) (λ n. answer) sends (λ n inside. ok) one result fin others
        where
          others : (n : ℕ) → n ≢ 1 → part_of d n ≡ part_of c n
          others n ne = other_same (known_of d.desk) (known_of c.desk) n ne

    pub took_stay : AllStay 1 (part_of b) (part_of c)
    took_stay = only (λ n. StaysPass (part_of b n) (part_of c n)) (stays (known_of b.desk) (known_of c.desk) (drop b.desk.owed next) answer t.reported)

    pub finish_stay : (d : BookDesk J G) (result : Result (Unit {0}) SubmitFault) → Finishing (part_of c 1) (part_of d 1) result → AllStay 1 (part_of b) (part_of d)
    finish_stay d result fin = all_finished 1 (part_of b) (part_of c) (part_of d) result took_stay fin (λ n ne. other_same (known_of d.desk) (known_of c.desk) n ne)

    pub still_unmet : c.met ≡ false
    still_unmet = t.same.met ∙ unmet

    pub err_shown : (f : SubmitFault) → answer ≡ Err f → f ≢ submit.Memory → ShownByOne 1 (part_of b) (part_of c) f
    err_shown f is ne = shown_of 1 (part_of b) (part_of c) 1 one f (drop b.desk.owed next) answer is t.reported ne

    pub err_own : (f : SubmitFault) → answer ≡ Err f → (met : Bool) → (met ≡ true → f ≡ submit.Closed) → HasPass lock (record c { met = met })
    err_own f is met closed = pass_of lock senders c t.able met (λ e. marked (closed e))
      where
        marked : f ≡ submit.Closed → (known_of c.desk).seen.finished ≡ true
        marked e = let r = t.reported.refused f is (λ x. cc (x, e)) in r.shown.closed e

    pub err_stands : (f : SubmitFault) → (met : Bool) → (f ≡ submit.Closed → met ≡ true) → (l : List (List ℕ)) → StandsOn (Err f) (StandsBehind (record c { met = met }) l)
    err_stands f met closed l = refused_on f (StandsBehind (record c { met = met }) l) (λ e. record { counted = t.same.counted ∙ counted; there = inl (closed e) })

    pub ok_own : HasPass lock c
    ok_own = let p = pass_of lock senders c t.able false (λ e. absurd (cc e)) in record {
      seated = p.seated;
      number = p.number;
      made = λ e. t.able.ready.manned;
      met = λ e. absurd (cc (e, still_unmet));
      rested = p.rested;
    }

    pub finish_refused : (d : BookDesk J G) (result : Result (Unit {0}) SubmitFault) → Finishing (part_of c 1) (part_of d 1) result → (f : SubmitFault) → result ≡ Err f → ShownByOne 1 (part_of b) (part_of d) f
    finish_refused d result fin f is = record {
      number = 1;
      inside = one;
      closed = λ x. absurd (fin.unclosed (is ∙ ap Err x));
      failed = λ x. failed_before (part_of b 1).faults (part_of c 1).faults (part_of d 1).faults t.reported.pass.faults (fin.failed (is ∙ ap Err x));
      broken = λ x. fin.broken (is ∙ ap Err x);
    }

    pub finish_stands : (d : BookDesk J G) (result : Result (Unit {0}) SubmitFault) → Finishing (part_of c 1) (part_of d 1) result → d.counted ≡ c.counted → OnOk result (d.met ≡ true) → (l : List (List ℕ)) → StandsOn result (StandsBehind d l)
    finish_stands d result fin same met l = of result refl met
      where
        of : (r : Result (Unit {0}) SubmitFault) → r ≡ result → OnOk r (d.met ≡ true) → StandsOn r (StandsBehind d l)
        of (Ok _) is m = record { counted = same ∙ t.same.counted ∙ counted; there = inl m }
        of (Err f) is m = refused_on f (StandsBehind d l) (λ x. absurd (fin.unclosed (sym is ∙ ap Err x)))
