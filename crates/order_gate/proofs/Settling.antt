-- Desks that answered their shares: what each sent, and behind what it stands.
use Rattle.std.proofs.Common.{◌≡◌, ◌≢◌, ◌⊎◌, ℕ, zero, suc, ◌+◌, ◌-◌, ◌%◌, ◌*◌, ◌<◌, ◌≤◌, ℤ, Bool, true, false, List, [], ◌∷◌, ◌++◌, length, drop, All, slice_index_or, slice_get, slice_set, Option, Some, None, Result, Ok, Err, OnOk, inl, inr, refl, sym, ap, subst, ◌∙◌, arith, append-nil, length-append}
use Rattle.std.proofs.lemmas.List.{length-drop, length-set, get_or-set_same, get_or-set_other}
use Rattle.std.proofs.lemmas.Nat.{mod-mul-add}
use Rattle.std.specs.Prelude.{nat_le, ◌&&◌, if◌then◌else◌}
use Rattle.std.specs.Vec.{with_item}
use Rattle.atomic_table.specs.Seated.{TableId}
use Rattle.jr_dated.specs.declared.journal.Journal.{Ghosts}
use Rattle.jr_boxes.specs.declared.faults.SubmitFault.{SubmitFault}
use Rattle.jr_boxes.specs.declared.faults.SubmitFault.TheVariants as submit
use Rattle.session_model.specs.Journal.{Entry}
use Rattle.gate_staff.specs.Sent.{entries_behind}
use Rattle.gate_turn.specs.Views.{Part}
use Rattle.gate_turn.specs.Rule.{In}
use Rattle.gate_turn.specs.Places.{known}
use Rattle.gate_staff.specs.Made.{SeesMark}
use Rattle.gate_turn.proofs.Failing.{failed_before}
use Rattle.gate_staff.specs.Business.{AllStay, ShownByOne, StandsOn, SendNothing, Answered}
use Rattle.gate_staff.specs.Hands.{WorkedEach, HasAgain}
use Rattle.gate_staff.proofs.Resuming.{stays_self}
use Rattle.order_desk.specs.Schema.{order_plan}
use Rattle.order_desk.specs.Plans.{desk_plan}
use Rattle.order_gate.specs.declared.desk.Desk.{Desk}
use Rattle.order_gate.specs.declared.hand.Hand.{Hand}
use Rattle.order_gate.specs.declared.desks.Desks.{Desks}
use Rattle.order_gate.specs.Reported.{Reported, Finishing}
use Rattle.order_gate.specs.Desks.{part_if, due, answer_of, known_of, IsSeated, IsManned, IsReadyAt, IsAble, Counted, Worked, StandsAt, StandBehind, HasNone, IsQuiet, HasMet, IsAnswer, IsHandAt, HasHands, HasPasses, SameBut, TookBack, hand_in, part_in}
use Rattle.order_gate.specs.Standing.{known_there, long_there, at_place, HandOf, hand_of, terms_of, manned_of}
use Rattle.order_gate.proofs.Parts.{long_of}
use Rattle.order_gate.proofs.Answering.{Sends, stays, all_finished, behind_owed, shown_of, answered_ok, answered_refused, answered_idle, answered_finish}
use Rattle.order_gate.proofs.Turns.{turned, plan_on}

pub seated_still : {J : Type 0} {G : Ghosts J} {D : Type 0} (lock : TableId) (h : Hand J D G) → IsManned lock h.desk → IsSeated lock h.desk
seated_still lock h m = record { pass = m.pass; there = m.there; own = m.own; free = m.free; number = m.number }

-- ---- one desk: x before its part of the call, y behind it

module _ {J : Type 0} {G : Ghosts J} {D : Type 0} (lock : TableId) (senders : ℕ) (payloads l : List (List ℕ)) (d version : ℕ) (reference : ℤ) (n : ℕ) (inside : In d n) (x y : Hand J D G)
    (w : Worked lock senders payloads x y) (man : IsManned lock x.desk) (number : x.desk.number ≡ n) (desks : x.desks ≡ d) (is_version : x.form.version ≡ version) (is_reference : x.reference ≡ reference)
    (st : StandsAt (desk_plan d version reference n l) (length l) x) where
  abbrev pub next : List (List ℕ)
  next = due x.form.plan x.reference x.desks x.turn payloads x.desk.number

  the_plan : desk_plan d version reference n (l ++ payloads) ≡ desk_plan d version reference n l ++ next
  the_plan =
      plan_on d version reference n x.turn x.form.plan l payloads inside (x.form.planned ∙ ap (λ v. order_plan v) is_version) (st.turn ∙ ap (λ k. length l % k) desks)
      ∙ ap (λ r. desk_plan d version reference n l ++ due x.form.plan r d x.turn payloads n) (sym is_reference)
      ∙ ap (λ k. desk_plan d version reference n l ++ due x.form.plan x.reference k x.turn payloads n) (sym desks)
      ∙ ap (λ k. desk_plan d version reference n l ++ due x.form.plan x.reference x.desks x.turn payloads k) (sym number)

  had : length (known_of x.desk).mine ≡ x.desk.made
  had = long_there lock x man

  owed_is : drop x.desk.owed next ≡ drop (length (known_of x.desk).mine) (desk_plan d version reference n (l ++ payloads))
  owed_is =
      behind_owed (desk_plan d version reference n l) next x.desk.made x.desk.owed st.least st.owed ∙ ap (λ k. drop k (desk_plan d version reference n l ++ next)) (sym had)
      ∙ ap (λ xs. drop (length (known_of x.desk).mine) xs) (sym the_plan)

  pub one_sends : Sends (desk_plan d version reference n (l ++ payloads)) n (known_of x.desk) (known_of y.desk) (answer_of y.desk.refused)
  one_sends = record {
    number = known_there lock x (seated_still lock x man) ∙ number;
    reported = subst (λ xs. Reported (known_of x.desk) (known_of y.desk) xs (answer_of y.desk.refused)) owed_is w.ran.reported;
  }

  pub one_stands : y.desk.refused ≡ None → StandsAt (desk_plan d version reference n (l ++ payloads)) (length (l ++ payloads)) y
  one_stands none = record {
    least = omega (arith, sum, made, length-drop x.desk.owed next, st.owed, st.least);
    owed = omega (arith, w.ran.owed none, sum, made, length-drop x.desk.owed next, st.owed, st.least);
    turn = w.turn ∙ ap (λ k. (k + length payloads) % x.desks) st.turn ∙ turned (length l) (length payloads) x.desks ∙ ap (λ k. k % x.desks) (sym (length-append l payloads)) ∙ ap (λ k. length (l ++ payloads) % k) (sym w.desks);
  }
    where
      sum : length (desk_plan d version reference n (l ++ payloads)) ≡ length (desk_plan d version reference n l) + length next
      sum = ap length the_plan ∙ length-append (desk_plan d version reference n l) next

      made : y.desk.made ≡ x.desk.made + length (drop x.desk.owed next)
      made =
          let r = w.ran.reported in
          let whole = at_none y.desk.refused none r.whole in
          sym (long_there lock y w.ran.ready.manned) ∙ long_reported r ∙ ap (λ k. k + length r.sent) had ∙ ap (λ xs. x.desk.made + length xs) (sym (r.are ∙ ap (λ zs. r.sent ++ zs) whole ∙ append-nil r.sent))
        where
          at_none : (f : Option SubmitFault) {A : Type 0} → f ≡ None → OnOk (answer_of f) A → A
          at_none None e a = a
          at_none (Some f) e a = absurd (cc e)

          long_reported : (r : Reported (known_of x.desk) (known_of y.desk) (drop x.desk.owed next) (answer_of y.desk.refused)) → length (known_of y.desk).mine ≡ length (known_of x.desk).mine + length r.sent
          long_reported r = long_of (known_of x.desk) (known_of y.desk) (drop x.desk.owed next) (answer_of y.desk.refused) r

-- ---- all of them: b before the call, s once its hands are back

module _ {J : Type 0} {G : Ghosts J} {D : Type 0} where
  -- what the desk of a number answers
  abbrev pub answer_if : Option (Hand J D G) → Result (Unit {0}) SubmitFault
  answer_if None = Ok tt
  answer_if (Some h) = answer_of h.desk.refused

  abbrev pub answer_in : List (Hand J D G) → ℕ → Result (Unit {0}) SubmitFault
  answer_in hands n = answer_if (hand_in hands n)

module _ {J : Type 0} {G : Ghosts J} {D : Type 0} (lock : TableId) (senders : ℕ) (payloads : List (List ℕ)) (b s : Desks J D G) (has : HasPasses lock b) (counted : b.counted ≡ true) (same : SameBut b s)
    (each : WorkedEach (Worked lock senders payloads) b.hands.items s.hands.items) where
  lt : (place : ℕ) → place < b.desks → place < length b.hands.items
  lt place few = let long = has.hands.long in omega (arith, few, long)

  at : (place : ℕ) (h : Hand J D G) → place < b.desks → Worked lock senders payloads (slice_index_or b.hands.items place h) (slice_index_or s.hands.items place h)
  at place h few = each.each place h (lt place few)

  pub hands_still : HasHands s
  hands_still = record {
    long = each.long ∙ has.hands.long ∙ sym same.desks;
    few = let few = has.hands.few in omega (arith, few, same.desks);
    each = λ place h few.
        let inside : place < b.desks = omega (arith, few, same.desks) in
        let w = at place h inside in
        let t = has.hands.each place h inside in
        record {
          number = w.ran.number ∙ t.number;
          desks = w.desks ∙ t.desks ∙ sym same.desks;
          version = w.version ∙ t.version ∙ sym same.version;
          reference = w.reference ∙ t.reference ∙ sym same.reference;
        };
  }

  -- it has its passes, where no mark was met, or one of them has seen it
  pub passes_still : (met : Bool) → (met ≡ true → SeesMark b.desks (part_in s.hands.items)) → HasPasses lock (record s { met = met })
  passes_still met sees = record {
    hands = record { long = hands_still.long; few = hands_still.few; each = λ place h few. let t = hands_still.each place h few in record { number = t.number; desks = t.desks; version = t.version; reference = t.reference } };
    seated = λ place h few. let inside : place < b.desks = omega (arith, few, same.desks) in seated_still lock (slice_index_or s.hands.items place h) (at place h inside).ran.ready.manned;
    made = λ c place h few. let inside : place < b.desks = omega (arith, few, same.desks) in (at place h inside).ran.ready.manned;
    met = λ e. subst (λ k. SeesMark k (part_in s.hands.items)) (sym same.desks) (sees e);
  }

  module _ (l : List (List ℕ)) (st : (place : ℕ) (h : Hand J D G) → place < b.desks → StandsAt (desk_plan b.desks b.version b.reference (place + 1) l) (length l) (slice_index_or b.hands.items place h)) where
    pub all_send : (n : ℕ) → In b.desks n → Sends (desk_plan b.desks b.version b.reference n (l ++ payloads)) n (part_in b.hands.items n) (part_in s.hands.items n) (answer_in s.hands.items n)
    all_send zero inside = absurd (omega (arith, inside.from_one))
    all_send (suc place) inside =
        let few : place < b.desks = omega (arith, inside.up_to) in
        let x = at_place b.hands.items place (lt place few) in
        let y = at_place s.hands.items place (omega (arith, lt place few, each.long)) in
        let e : place + 1 ≡ suc place = omega arith in
        let t = has.hands.each place x.it few in
        let w : Worked lock senders payloads x.it y.it = subst (λ h. Worked lock senders payloads x.it h) (y.at x.it) (subst (λ h. Worked lock senders payloads h (slice_index_or s.hands.items place x.it)) (x.at x.it) (at place x.it few)) in
        let is = x.at x.it in
        let sends = one_sends lock senders payloads l b.desks b.version b.reference (suc place) inside x.it y.it w
        (subst (λ h. IsManned lock h.desk) is (has.made counted place x.it few)) (ap (λ h. h.desk.number) (sym is) ∙ t.number ∙ e) (ap (λ h. h.desks) (sym is) ∙ t.desks) (ap (λ h. h.form.version) (sym is) ∙ t.version)
        (ap (λ h. h.reference) (sym is) ∙ t.reference)
        (subst (λ h. StandsAt (desk_plan b.desks b.version b.reference (suc place) l) (length l) h) is (subst (λ k. StandsAt (desk_plan b.desks b.version b.reference k l) (length l) (slice_index_or b.hands.items place x.it)) e (st place x.it few))) in
        subst (λ o. Sends (desk_plan b.desks b.version b.reference (suc place) (l ++ payloads)) (suc place) (part_if o) (part_in s.hands.items (suc place)) (answer_in s.hands.items (suc place))) (sym x.found)
        (subst (λ o. Sends (desk_plan b.desks b.version b.reference (suc place) (l ++ payloads)) (suc place) (known_of x.it.desk) (part_if o) (answer_if o)) (sym y.found) sends)

    pub all_stand : All HasNone s.hands.items → (place : ℕ) (h : Hand J D G) → place < b.desks → StandsAt (desk_plan b.desks b.version b.reference (place + 1) (l ++ payloads)) (length (l ++ payloads)) (slice_index_or s.hands.items place h)
    all_stand none place h few =
        let t = has.hands.each place h few in
        let inside : In b.desks (place + 1) = record { from_one = omega arith; up_to = omega (arith, few) } in
        one_stands lock senders payloads l b.desks b.version b.reference (place + 1) inside (slice_index_or b.hands.items place h) (slice_index_or s.hands.items place h) (at place h few)
        (has.made counted place h few) t.number t.desks t.version t.reference (st place h few) (none place h (omega (arith, lt place few, each.long)))

  -- ---- what was answered

  -- what each reported, whatever it was to send
  pub record ReportsAt (n : ℕ) : Type 0 where
    pub next : List (List ℕ)
    pub reported : Reported (part_in b.hands.items n) (part_in s.hands.items n) next (answer_in s.hands.items n)

  pub reports_at : (n : ℕ) → In b.desks n → ReportsAt n
  reports_at zero inside = absurd (omega (arith, inside.from_one))
  reports_at (suc place) inside =
      let few : place < b.desks = omega (arith, inside.up_to) in
      let x = at_place b.hands.items place (lt place few) in
      let y = at_place s.hands.items place (omega (arith, lt place few, each.long)) in
      let w : Worked lock senders payloads x.it y.it = subst (λ h. Worked lock senders payloads x.it h) (y.at x.it) (subst (λ h. Worked lock senders payloads h (slice_index_or s.hands.items place x.it)) (x.at x.it) (at place x.it few)) in
      let next = drop x.it.desk.owed (due x.it.form.plan x.it.reference x.it.desks x.it.turn payloads x.it.desk.number) in
      record {
        next = next;
        reported = subst (λ o. Reported (part_if o) (part_in s.hands.items (suc place)) next (answer_in s.hands.items (suc place))) (sym x.found)
            (subst (λ o. Reported (known_of x.it.desk) (part_if o) next (answer_if o)) (sym y.found) w.ran.reported);
      }

  pub stay_at : AllStay b.desks (λ n. part_in b.hands.items n) (λ n. part_in s.hands.items n)
  stay_at = λ n inside. let r = reports_at n inside in stays (part_in b.hands.items n) (part_in s.hands.items n) r.next (answer_in s.hands.items n) r.reported

  pub shown_at : (f : SubmitFault) (n : ℕ) → In b.desks n → answer_in s.hands.items n ≡ Err f → f ≢ submit.Memory → ShownByOne b.desks (part_in b.hands.items) (part_in s.hands.items) f
  shown_at f n inside is ne =
      let r = reports_at n inside in
      shown_of b.desks (part_in b.hands.items) (part_in s.hands.items) n inside f r.next (answer_in s.hands.items n) is r.reported ne

  pub all_ok : All HasNone s.hands.items → (n : ℕ) → In b.desks n → answer_in s.hands.items n ≡ Ok tt
  all_ok none zero inside = absurd (omega (arith, inside.from_one))
  all_ok none (suc place) inside =
      let y = at_place s.hands.items place (omega (arith, inside.up_to, has.hands.long, each.long)) in
      ap answer_if y.found ∙ ap answer_of (ap (λ h. h.desk.refused) (sym (y.at y.it)) ∙ none place y.it (omega (arith, inside.up_to, has.hands.long, each.long)))

  pub all_quiet : All IsQuiet s.hands.items → (n : ℕ) → In b.desks n → (answer_in s.hands.items n ≡ Ok tt) ⊎ (answer_in s.hands.items n ≡ Err submit.Closed)
  all_quiet quiet zero inside = absurd (omega (arith, inside.from_one))
  all_quiet quiet (suc place) inside =
      let y = at_place s.hands.items place (omega (arith, inside.up_to, has.hands.long, each.long)) in
      quiet_of y.it (ap answer_if y.found) (subst (λ h. IsQuiet h) (y.at y.it) (quiet place y.it (omega (arith, inside.up_to, has.hands.long, each.long))))
    where
      quiet_of : (h : Hand J D G) → {r : Result (Unit {0}) SubmitFault} → r ≡ answer_of h.desk.refused → IsQuiet h → (r ≡ Ok tt) ⊎ (r ≡ Err submit.Closed)
      quiet_of h e (inl none) = inl (e ∙ ap answer_of none)
      quiet_of h e (inr closed) = inr (e ∙ ap answer_of closed)

  -- a desk that met a refusal
  pub record MetAt (f : SubmitFault) : Type 0 where
    pub n : ℕ
    pub inside : In b.desks n
    pub is : answer_in s.hands.items n ≡ Err f

  pub met_at : (f : SubmitFault) → HasMet s.hands.items f → MetAt f
  met_at f m =
      let y = at_place s.hands.items m.place m.inside in
      record {
        n = suc m.place;
        inside = record { from_one = omega arith; up_to = let i = m.inside in omega (arith, i, has.hands.long, each.long) };
        is = ap answer_if y.found ∙ ap answer_of (ap (λ h. h.desk.refused) (sym (y.at y.it)) ∙ m.is y.it);
      }

-- ---- as the call is settled

pub plan_same : (d e v w : ℕ) (r q : ℤ) → e ≡ d → w ≡ v → q ≡ r → desk_plan e w q ≡ desk_plan d v r
plan_same d e v w r q a b c = ap (λ k. desk_plan k w q) a ∙ ap (λ k. desk_plan d k q) b ∙ ap (λ k. desk_plan d v k) c

pub refused_on : (f : SubmitFault) (A : Type 0) → (f ≡ submit.Closed → A) → StandsOn (Err f) A
refused_on submit.Closed A a = a refl
refused_on submit.Broken A a = tt
refused_on submit.Memory A a = tt
refused_on submit.Fault A a = tt
refused_on (submit.Full es bs) A a = tt

module _ {J : Type 0} {G : Ghosts J} {D : Type 0} where
  -- with the hands that it had
  same_hands : (lock : TableId) (b s : Desks J D G) → SameBut b s → s.hands.items ≡ b.hands.items → HasPasses lock b → HasPasses lock s
  same_hands lock b s same is has = record {
    hands = record {
      long = ap length is ∙ has.hands.long ∙ sym same.desks;
      few = let few = has.hands.few in omega (arith, few, same.desks);
      each = λ place h few.
          let inside : place < b.desks = omega (arith, few, same.desks) in
          let t = subst (λ xs. IsHandAt b place (slice_index_or xs place h)) (sym is) (has.hands.each place h inside) in
          record { number = t.number; desks = t.desks ∙ sym same.desks; version = t.version ∙ sym same.version; reference = t.reference ∙ sym same.reference };
    };
    seated = λ place h few. let inside : place < b.desks = omega (arith, few, same.desks) in subst (λ xs. IsSeated lock (slice_index_or xs place h).desk) (sym is) (has.seated place h inside);
    made = λ c place h few. let inside : place < b.desks = omega (arith, few, same.desks) in subst (λ xs. IsManned lock (slice_index_or xs place h).desk) (sym is) (has.made (sym same.counted ∙ c) place h inside);
    met = λ e. subst (λ k. SeesMark k (part_in s.hands.items)) (sym same.desks) (subst (λ xs. SeesMark b.desks (part_in xs)) (sym is) (has.met (sym same.met ∙ e)));
  }

module _ {J : Type 0} {G : Ghosts J} {D : Type 0} (lock : TableId) (senders : ℕ) (payloads : List (List ℕ)) (b s : Desks J D G) (has : HasPasses lock b)
    (again : HasAgain (λ (d : Desks J D G) (e : Desks J D G) given back. TookBack d e given back) (λ (h : Hand J D G) (k : Hand J D G). Worked lock senders payloads h k) b s) where
  same : SameBut b s
  same = again.took_back.same

  -- where it is not idle, its hands did their parts
  pub worked : b.counted ≡ true → b.met ≡ false → WorkedEach (Worked lock senders payloads) b.hands.items s.hands.items
  worked counted unmet = of again.took_back.which
    where
      of : ((b.counted ≡ true) × (b.met ≡ false) × (again.given ≡ b.hands.items) × (s.hands.items ≡ again.back)) ⊎ (((b.counted ≡ false) ⊎ (b.met ≡ true)) × (s.hands.items ≡ b.hands.items))
          → WorkedEach (Worked lock senders payloads) b.hands.items s.hands.items
      of (inl w) = subst (λ xs. WorkedEach (Worked lock senders payloads) xs s.hands.items) w.2 (subst (λ xs. WorkedEach (Worked lock senders payloads) again.given xs) (sym w.3) again.did)
      of (inr (inl un, e)) = absurd (cc (un, counted))
      of (inr (inr did, e)) = absurd (cc (did, unmet))

  pub own_any : HasPasses lock s
  own_any = of again.took_back.which
    where
      of : ((b.counted ≡ true) × (b.met ≡ false) × (again.given ≡ b.hands.items) × (s.hands.items ≡ again.back)) ⊎ (((b.counted ≡ false) ⊎ (b.met ≡ true)) × (s.hands.items ≡ b.hands.items)) → HasPasses lock s
      of (inl w) = passes_still lock senders payloads b s has w.0 same (worked w.0 w.1) s.met (λ e. absurd (cc (sym same.met ∙ e, w.1)))
      of (inr i) = same_hands lock b s same i.1 has

  -- each has the same pass
  pub all_stay : AllStay b.desks (λ n. part_in b.hands.items n) (λ n. part_in s.hands.items n)
  all_stay = of again.took_back.which
    where
      of : ((b.counted ≡ true) × (b.met ≡ false) × (again.given ≡ b.hands.items) × (s.hands.items ≡ again.back)) ⊎ (((b.counted ≡ false) ⊎ (b.met ≡ true)) × (s.hands.items ≡ b.hands.items))
          → AllStay b.desks (λ n. part_in b.hands.items n) (λ n. part_in s.hands.items n)
      of (inl w) = stay_at lock senders payloads b s has w.0 same (worked w.0 w.1)
      of (inr i) = subst (λ xs. AllStay b.desks (λ n. part_in b.hands.items n) (λ n. part_in xs n)) (sym i.1) (λ n inside. stays_self (part_in b.hands.items n))

  -- where the mark was met already, nothing is sent
  pub idle : (s.met ≡ true) ⊎ (s.counted ≡ false) → (l : List (List ℕ)) → StandBehind b l → (plan : ℕ → List (List ℕ)) (finished : Bool) → Answered plan b.desks (λ n. part_in b.hands.items n) (λ n. part_in s.hands.items n) finished (Ok tt)
  idle (inr un) l st plan finished = absurd (cc (sym same.counted ∙ un, st.counted))
  idle (inl met) l st plan finished = of again.took_back.which
    where
      of : ((b.counted ≡ true) × (b.met ≡ false) × (again.given ≡ b.hands.items) × (s.hands.items ≡ again.back)) ⊎ (((b.counted ≡ false) ⊎ (b.met ≡ true)) × (s.hands.items ≡ b.hands.items))
          → Answered plan b.desks (λ n. part_in b.hands.items n) (λ n. part_in s.hands.items n) finished (Ok tt)
      of (inl w) = absurd (cc (sym same.met ∙ met, w.1))
      of (inr i) = subst (λ xs. Answered plan b.desks (λ n. part_in b.hands.items n) (λ n. part_in xs n) finished (Ok tt)) (sym i.1) (answered_idle plan b.desks (part_in b.hands.items) finished (has.met (sym same.met ∙ met)))

  -- it is not idle
  module _ (is_counted : s.counted ≡ true) (is_unmet : s.met ≡ false) where
    counted : b.counted ≡ true
    counted = sym same.counted ∙ is_counted

    unmet : b.met ≡ false
    unmet = sym same.met ∙ is_unmet

    each : WorkedEach (Worked lock senders payloads) b.hands.items s.hands.items
    each = worked counted unmet

    stood : (l : List (List ℕ)) → StandBehind b l → (place : ℕ) (h : Hand J D G) → place < b.desks → StandsAt (desk_plan b.desks b.version b.reference (place + 1) l) (length l) (slice_index_or b.hands.items place h)
    stood l st = of st.each
      where
        of : (b.met ≡ true) ⊎ ((place : ℕ) (h : Hand J D G) → place < b.desks → StandsAt (desk_plan b.desks b.version b.reference (place + 1) l) (length l) (slice_index_or b.hands.items place h))
            → (place : ℕ) (h : Hand J D G) → place < b.desks → StandsAt (desk_plan b.desks b.version b.reference (place + 1) l) (length l) (slice_index_or b.hands.items place h)
        of (inl met) = absurd (cc (met, unmet))
        of (inr all) = all

    pub sends_of : (l : List (List ℕ)) → StandBehind b l → (n : ℕ) → In b.desks n → Sends (desk_plan b.desks b.version b.reference n (l ++ payloads)) n (part_in b.hands.items n) (part_in s.hands.items n) (answer_in s.hands.items n)
    sends_of l st = all_send lock senders payloads b s has counted same each l (stood l st)

    pub ok_of : All HasNone s.hands.items → (n : ℕ) → In b.desks n → answer_in s.hands.items n ≡ Ok tt
    ok_of none = all_ok lock senders payloads b s has counted same each none

    -- none was refused
    pub ok_answered : All HasNone s.hands.items → (l : List (List ℕ)) → StandBehind b l → (finished : Bool) → (0 < b.desks → finished ≡ true → ⊥)
        → Answered (λ n. desk_plan b.desks b.version b.reference n (l ++ payloads)) b.desks (λ n. part_in b.hands.items n) (λ n. part_in s.hands.items n) finished (Ok tt)
    ok_answered none l st finished never =
        answered_ok (λ n. desk_plan b.desks b.version b.reference n (l ++ payloads)) b.desks (part_in b.hands.items) (part_in s.hands.items) (answer_in s.hands.items) (sends_of l st) finished (ok_of none) never

    pub ok_stands : All HasNone s.hands.items → (l : List (List ℕ)) → StandBehind b l → StandBehind s (l ++ payloads)
    ok_stands none l st = record {
      counted = is_counted;
      each = inr (λ place h few.
          let inside : place < b.desks = omega (arith, few, same.desks) in
          subst (λ k. StandsAt (desk_plan k s.version s.reference (place + 1) (l ++ payloads)) (length (l ++ payloads)) (slice_index_or s.hands.items place h)) (sym same.desks)
          (subst (λ v. StandsAt (desk_plan b.desks v s.reference (place + 1) (l ++ payloads)) (length (l ++ payloads)) (slice_index_or s.hands.items place h)) (sym same.version)
          (subst (λ r. StandsAt (desk_plan b.desks b.version r (place + 1) (l ++ payloads)) (length (l ++ payloads)) (slice_index_or s.hands.items place h)) (sym same.reference)
          (all_stand lock senders payloads b s has counted same each l (stood l st) none place h inside))));
    }

    -- one was refused
    module _ (f : SubmitFault) (answer : IsAnswer s.hands.items (Err f)) where
      met_there : MetAt lock senders payloads b s has counted same each f
      met_there = met_at lock senders payloads b s has counted same each f (answer.met f refl)

      pub err_shown : f ≢ submit.Memory → ShownByOne b.desks (λ n. part_in b.hands.items n) (λ n. part_in s.hands.items n) f
      err_shown ne = let m = met_there in shown_at lock senders payloads b s has counted same each f m.n m.inside m.is ne

      pub err_answered : (l : List (List ℕ)) → StandBehind b l → (finished : Bool)
          → Answered (λ n. desk_plan b.desks b.version b.reference n (l ++ payloads)) b.desks (λ n. part_in b.hands.items n) (λ n. part_in s.hands.items n) finished (Err f)
      err_answered l st finished =
          let m = met_there in
          answered_refused (λ n. desk_plan b.desks b.version b.reference n (l ++ payloads)) b.desks (part_in b.hands.items) (part_in s.hands.items) (answer_in s.hands.items) (sends_of l st) m.n m.inside f m.is finished
          (λ e. all_quiet lock senders payloads b s has counted same each (answer.quiet (ap Err e)))

      pub err_own : (met : Bool) → (met ≡ true → f ≡ submit.Closed) → HasPasses lock (record s { met = met })
      err_own met closed = passes_still lock senders payloads b s has counted same each met (λ e. let c = closed e in let m = err_shown (λ x. cc (c, x)) in record { number = m.number; inside = m.inside; marked = m.closed c })

      pub err_stands : (met : Bool) → (f ≡ submit.Closed → met ≡ true) → (l : List (List ℕ)) → StandsOn (Err f) (StandBehind (record s { met = met }) l)
      err_stands met closed l = refused_on f (StandBehind (record s { met = met }) l) (λ e. record { counted = is_counted; each = inl (closed e) })

    -- the mark was added
    module _ (e : Desks J D G) (result : Result (Unit {0}) SubmitFault) (none : All HasNone s.hands.items) (some : 0 < b.desks) (fin : Finishing (part_in s.hands.items 1) (part_in e.hands.items 1) result)
        (others : (n : ℕ) → n ≢ 1 → part_in e.hands.items n ≡ part_in s.hands.items n) where
      one : In b.desks 1
      one = record { from_one = omega arith; up_to = omega (arith, some) }

      pub finish_answered : (l : List (List ℕ)) → StandBehind b l → Answered (λ n. desk_plan b.desks b.version b.reference n (l ++ payloads)) b.desks (λ n. part_in b.hands.items n) (λ n. part_in e.hands.items n) true result
      finish_answered l st =
          answered_finish (λ n. desk_plan b.desks b.version b.reference n (l ++ payloads)) b.desks (part_in b.hands.items) (part_in s.hands.items) (part_in e.hands.items) (answer_in s.hands.items) (sends_of l st) (ok_of none) one result fin others

      pub finish_stay : AllStay b.desks (λ n. part_in b.hands.items n) (λ n. part_in e.hands.items n)
      finish_stay = all_finished b.desks (part_in b.hands.items) (part_in s.hands.items) (part_in e.hands.items) result all_stay fin others

      pub finish_refused : (f : SubmitFault) → result ≡ Err f → ShownByOne b.desks (λ n. part_in b.hands.items n) (λ n. part_in e.hands.items n) f
      finish_refused f is =
          let first = (reports_at lock senders payloads b s has counted same each 1 one).reported.pass.faults in
          record {
            number = 1;
            inside = one;
            closed = λ x. absurd (fin.unclosed (is ∙ ap Err x));
            failed = λ x. failed_before (part_in b.hands.items 1).faults (part_in s.hands.items 1).faults (part_in e.hands.items 1).faults first (fin.failed (is ∙ ap Err x));
            broken = λ x. fin.broken (is ∙ ap Err x);
          }

      pub finish_stands : e.counted ≡ true → OnOk result (e.met ≡ true) → (l : List (List ℕ)) → StandsOn result (StandBehind e l)
      finish_stands c met l = of result refl met
        where
          of : (r : Result (Unit {0}) SubmitFault) → r ≡ result → OnOk r (e.met ≡ true) → StandsOn r (StandBehind e l)
          of (Ok _) is m = record { counted = c; each = inl m }
          of (Err f) is m = refused_on f (StandBehind e l) (λ x. absurd (fin.unclosed (sym is ∙ ap Err x)))

-- ---- the first desk's call that adds the mark

get_set : {A : Type 0} (xs : List A) (y : A) → 0 < length xs → slice_get (slice_set xs 0 y) 0 ≡ Some y
get_set [] y some = absurd (omega (arith, some))
get_set (x ∷ xs) y some = refl

get_set_other : {A : Type 0} (xs : List A) (y : A) (k : ℕ) → slice_get (slice_set xs 0 y) (suc k) ≡ slice_get xs (suc k)
get_set_other [] y k = refl
get_set_other (x ∷ xs) y k = refl

module _ {J : Type 0} {G : Ghosts J} {D : Type 0} where
  pub others_stay : (hands : List (Hand J D G)) (y : Hand J D G) (n : ℕ) → n ≢ 1 → part_in (slice_set hands 0 y) n ≡ part_in hands n
  others_stay hands y zero ne = refl
  others_stay hands y (suc zero) ne = absurd (ne refl)
  others_stay hands y (suc (suc k)) ne = ap part_if (get_set_other hands y k)

  module _ (lock : TableId) (d : Desks J D G) (has : HasPasses lock d) (counted : d.counted ≡ true) (some : 0 < d.desks) (x : Hand J D G) (is : (h : Hand J D G) → slice_index_or d.hands.items 0 h ≡ x) where
    terms : IsHandAt d 0 x
    terms = subst (λ h. IsHandAt d 0 h) (is x) (has.hands.each 0 x some)

    pub first_ready : (senders : ℕ) → d.desks ≤ senders → IsReadyAt lock senders x.desk
    first_ready senders few = let number = terms.number in record {
      manned = subst (λ h. IsManned lock h.desk) (is x) (has.made counted 0 x some);
      sender = omega (arith, number, some, few);
      few = record { from_one = omega (arith, number); up_to = omega (arith, number) };
    }

    -- with the desk behind the call
    abbrev pub closed_hand : Desk J G → Hand J D G
    closed_hand desk = record x { desk = desk }

    pub first_closed : (desk : Desk J G) → IsManned lock desk → desk.number ≡ x.desk.number → (met : Bool) → (met ≡ true → (known_of desk).seen.finished ≡ true)
        → HasPasses lock (record d { hands = with_item d.hands 0 (record x { desk = desk }); met = met })
    first_closed desk manned number met sees = record {
      hands = record { long = length-set d.hands.items 0 (closed_hand desk) ∙ has.hands.long; few = has.hands.few; each = each_of };
      seated = λ place h few. by_place (λ k z. IsSeated lock z.desk) (seated_still lock (closed_hand desk) manned) has.seated place h few;
      made = λ c place h few. by_place (λ k z. IsManned lock z.desk) manned (has.made counted) place h few;
      met = λ e. record { number = 1; inside = record { from_one = omega arith; up_to = omega (arith, some) }; marked = ap (λ o. (part_if o).seen.finished) (get_set d.hands.items (closed_hand desk) inside) ∙ sees e };
    }
      where
        inside : 0 < length d.hands.items
        inside = let long = has.hands.long in omega (arith, some, long)

        by_place : (P : ℕ → Hand J D G → Type 0) → P 0 (closed_hand desk) → ((place : ℕ) (h : Hand J D G) → place < d.desks → P place (slice_index_or d.hands.items place h)) → (place : ℕ) (h : Hand J D G) → place < d.desks → P place (slice_index_or (slice_set d.hands.items 0 (closed_hand desk)) place h)
        by_place P first rest zero h few = subst (λ z. P 0 z) (sym (get_or-set_same d.hands.items 0 (closed_hand desk) h inside)) first
        by_place P first rest (suc k) h few = subst (λ z. P (suc k) z) (sym (get_or-set_other d.hands.items 0 (suc k) (closed_hand desk) h (λ e. omega (arith, e)))) (rest (suc k) h few)

        each_of : (place : ℕ) (h : Hand J D G) → place < d.desks → IsHandAt (record d { hands = with_item d.hands 0 (record x { desk = desk }); met = met }) place (slice_index_or (slice_set d.hands.items 0 (closed_hand desk)) place h)
        each_of place h few =
            let t = by_place (λ k z. IsHandAt d k z) (record { number = number ∙ terms.number; desks = terms.desks; version = terms.version; reference = terms.reference }) has.hands.each place h few in
            record { number = t.number; desks = t.desks; version = t.version; reference = t.reference }

-- ---- before a call, and before the first

empty_plan : (d version : ℕ) (reference : ℤ) (n : ℕ) → desk_plan d version reference n [] ≡ []
empty_plan d version reference n = either_way (nat_le 1 n && nat_le n d)
  where
    either_way : (b : Bool) → ◌≡◌ {A = List (List ℕ)} (if b then [] else []) []
    either_way true = refl
    either_way false = refl

zero_turn : (d : ℕ) → 0 < d → 0 % d ≡ 0
zero_turn d some = let e : 0 ≡ 0 * d + 0 = omega arith in ap (λ k. k % d) e ∙ mod-mul-add 0 d 0 some

nothing_sent : (mine : List Entry) (sender : ℕ) (sent rest : List (List ℕ)) → [] ≡ sent ++ rest → mine ++ entries_behind sender (length mine) sent ≡ mine
nothing_sent mine sender [] rest e = append-nil mine
nothing_sent mine sender (x ∷ sent) rest e = absurd (cc e)

module _ {J : Type 0} {G : Ghosts J} {D : Type 0} (lock : TableId) (d : Desks J D G) (has : HasPasses lock d) where
  -- each hand can work
  pub all_able : d.counted ≡ true → (senders : ℕ) → d.desks ≤ senders → (place : ℕ) (h : Hand J D G) → place < d.desks → IsAble lock senders (slice_index_or d.hands.items place h)
  all_able counted senders few place h inside =
      let t = has.hands.each place h inside in
      let number = t.number in
      let desks = t.desks in
      let most = has.hands.few in
      record {
        ready = record {
          manned = has.made counted place h inside;
          sender = omega (arith, number, inside, few);
          few = record { from_one = omega (arith, number); up_to = omega (arith, number, inside, most) };
        };
        some = omega (arith, desks, inside);
      }

  -- each counted the entries that the outbox has of it
  module _ (e : Desks J D G) (long : length e.hands.items ≡ length d.hands.items)
      (each : (i : ℕ) (h : Hand J D G) → i < length d.hands.items → Counted lock (slice_index_or d.hands.items i h) (slice_index_or e.hands.items i h)) where
    there : (place : ℕ) → place < d.desks → place < length d.hands.items
    there place few = let long = has.hands.long in omega (arith, few, long)

    counted_in : (n : ℕ) → In d.desks n → Reported (part_in d.hands.items n) (part_in e.hands.items n) [] (Ok tt)
    counted_in zero inside = absurd (omega (arith, inside.from_one))
    counted_in (suc place) inside =
        let few = there place (omega (arith, inside.up_to)) in
        let x = at_place d.hands.items place few in
        let y = at_place e.hands.items place (omega (arith, few, long)) in
        let r = (each place x.it few).reported in
        subst (λ o. Reported (part_if o) (part_in e.hands.items (suc place)) [] (Ok tt)) (sym x.found) (subst (λ o. Reported (known_of x.it.desk) (part_if o) [] (Ok tt)) (sym y.found)
        (subst (λ h. Reported (known_of x.it.desk) (known_of h.desk) [] (Ok tt)) (y.at x.it) (subst (λ h. Reported (known_of h.desk) (known_of (slice_index_or e.hands.items place x.it).desk) [] (Ok tt)) (x.at x.it) r)))

    pub begun_own : HasPasses lock (record d { hands = e.hands; counted = true })
    begun_own = record {
      hands = record {
        long = long ∙ has.hands.long;
        few = has.hands.few;
        each = λ place h few.
            let k = each place h (there place few) in
            let t = has.hands.each place h few in
            record { number = k.number ∙ t.number; desks = k.desks ∙ t.desks; version = k.version ∙ t.version; reference = k.reference ∙ t.reference };
      };
      seated = λ place h few. seated_still lock (slice_index_or e.hands.items place h) (each place h (there place few)).manned;
      made = λ c place h few. (each place h (there place few)).manned;
      met = λ m.
          let s = has.met m in
          let r = counted_in s.number s.inside in
          record { number = s.number; inside = s.inside; marked = ap (λ h. h.finished) (sym (r.pass.seen.alone s.marked)) ∙ s.marked };
    }

    pub begun_stands : StandBehind (record d { hands = e.hands; counted = true }) []
    begun_stands = record {
      counted = refl;
      each = inr (λ place h few.
          let k = each place h (there place few) in
          let t = has.hands.each place h few in
          let desks = k.desks ∙ t.desks in
          let none : length (desk_plan d.desks d.version d.reference (place + 1) []) ≡ 0 = ap length (empty_plan d.desks d.version d.reference (place + 1)) in
          record { least = omega (arith, none); owed = omega (arith, k.owed, none); turn = k.turn ∙ sym (zero_turn (slice_index_or e.hands.items place h).desks (omega (arith, desks, few))) });
    }

    pub begun_silent : SendNothing d.desks (λ n. part_in d.hands.items n) (λ n. part_in e.hands.items n)
    begun_silent = record {
      same = λ n inside. stays (part_in d.hands.items n) (part_in e.hands.items n) [] (Ok tt) (counted_in n inside);
      mine = λ n inside. let r = counted_in n inside in r.mine ∙ nothing_sent (part_in d.hands.items n).mine (part_in d.hands.items n).number r.sent r.rest r.are;
      ended = λ n inside. (counted_in n inside).pass.ended;
      unlost = λ n inside. (counted_in n inside).unlost (λ x. cc x);
    }
