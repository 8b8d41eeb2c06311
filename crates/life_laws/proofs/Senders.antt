-- What the passes of senders know behind a life, in which each went on with its plan.
use Rattle.std.proofs.Common.{◌≡◌, ◌≢◌, ◌⊎◌, inl, inr, ⊎_elim, ℕ, zero, suc, ◌+◌, ◌-◌, ◌<◌, ◌≤◌, true, false, List, [], ◌∷◌, length, map, reverse, slice_get, slice_index_or, All, Option, Some, if◌then◌else◌, ◌==◌, sym, ap, subst, ◌∙◌, arith, add-one, append-nil}
use Rattle.std.proofs.lemmas.List.{get_or-map, get_or_default, reverse-reverse, length-map}
use Rattle.std.specs.List.{AllByRecursion}
use mathlib.Core.List.{IsPrefix}
use Rattle.session_model.specs.Journal.{Entry, History, finish, entries_of, BeginsHistory}
use Rattle.session_model.proofs.Lists.{all_weaker, prefix_get}
use Rattle.jr_dated.specs.declared.journal.Journal.{Ghosts}
use Rattle.jr_boxes.specs.declared.faults.SubmitFault.{SubmitFault}
use Rattle.jr_boxes.specs.declared.faults.SubmitFault.TheVariants as submit
use Rattle.gate_turn.specs.Views.{Account, Part, new_part}
use Rattle.gate_turn.specs.Rule.{In}
use Rattle.gate_turn.specs.Places.{known}
use Rattle.gate_turn.specs.Listed.{known_if, known_at}
use Rattle.gate_turn.specs.declared.pass.Pass.{Pass}
use Rattle.gate_turn.specs.declared.passes.Passes.{Passes}
use Rattle.gate_turn.proofs.Histories.{begins_on}
use Rattle.gate_senders.specs.Gate.{opening_of, MadeAt}
use Rattle.gate_senders.specs.Shown.{TakesTurn}
use Rattle.gate_senders.specs.declared.gate.Gate.{Gate}
use Rattle.gate_senders.specs.declared.kept.Kept.{Kept}
use Rattle.plan_values.specs.Plans.{payloads_of}
use Rattle.plan_values.specs.declared.plan.Plan.{Plan}
use Rattle.gate_staff.specs.Runs.{plan_of, IsThrough, Counted, CountedEach, Ran, WasRefused}
use Rattle.gate_staff.specs.Seats.{SeatedFrom}
use Rattle.gate_staff.specs.declared.sender.Sender.{Sender}
use Rattle.conn_door.specs.declared.answer.ServeFault.{ServeFault}
use Rattle.conn_door.specs.Senders.{LosesMark, IsRefusal, FinishedFirst, SubmittedAll}
use Rattle.life_laws.specs.Plans.{plan_in}
use Rattle.gate_staff.specs.Made.{MadeOf, IsAllMade, LosesMessages}
use Rattle.gate_staff.specs.Made.{IsAmong}
use Rattle.gate_staff.proofs.Stepping.{stepped, all_ran, next_ran, unlost_ran}
use Rattle.life_laws.proofs.Seen.{own_among}

-- what a pass knows that was made with a value that said this, and went on with a plan
pub record PartMade (a : Account) (n : ℕ) (plan : List (List ℕ)) (p : Part) : Type 0 where
  pub number : p.number ≡ n
  pub opening : p.opening ≡ a
  pub behind : BeginsHistory a.history p.seen
  pub faults : a.faults ≤ p.faults
  pub of : MadeOf (entries_of a.history.made n) n plan p.mine

-- a pass that took one turn more, and made nothing
pub part_still : (a : Account) (n : ℕ) (plan : List (List ℕ)) (p q : Part) → PartMade a n plan p → TakesTurn p q → q.mine ≡ p.mine → PartMade a n plan q
part_still a n plan p q m turn mine = record {
  number = turn.number ∙ m.number;
  opening = turn.opening ∙ m.opening;
  behind = begins_on a.history p.seen q.seen m.behind turn.seen;
  faults = omega (arith, m.faults, turn.faults);
  of = record { count = m.of.count; are = mine ∙ m.of.are };
}

module _ {J : Type 0} {G : Ghosts J} (gate : Gate J G) (a : Account) where
  -- a sender that was seated, with a plan, and has done nothing yet
  pub record Fresh (n : ℕ) (plan : List (List ℕ)) (s : Sender J G) : Type 0 where
    pub made : ℕ
    pub part : known s.pass ≡ new_part n made a
    pub plan_is : plan_of s ≡ plan

  counted_made : (n : ℕ) (plan : List (List ℕ)) (s c : Sender J G) → Fresh n plan s → Counted gate s c → PartMade a n plan (known c.pass)
  counted_made n plan s c f k = record {
    number = k.pass.number ∙ ap (λ (p : Part). p.number) f.part;
    opening = k.pass.opening ∙ ap (λ (p : Part). p.opening) f.part;
    behind = subst (λ (h : History). BeginsHistory h (known c.pass).seen) (ap (λ (p : Part). p.seen) f.part) k.pass.seen;
    faults = subst (λ (m : ℕ). m ≤ (known c.pass).faults) (ap (λ (p : Part). p.faults) f.part) k.pass.faults;
    of = record { count = 0; are = k.mine ∙ ap (λ (p : Part). p.mine) f.part ∙ sym (append-nil (entries_of a.history.made n)) };
  }

  counted_had : (n : ℕ) (plan : List (List ℕ)) (s c : Sender J G) → Fresh n plan s → Counted gate s c → (known c.pass).mine ≡ entries_of a.history.made n
  counted_had n plan s c f k = k.mine ∙ ap (λ (p : Part). p.mine) f.part

  -- what a sender made behind what it was counted with, in the terms of the opening
  moved : (P : List Entry → ℕ → List (List ℕ) → Type 0) (n : ℕ) (plan : List (List ℕ)) (s c : Sender J G) → Fresh n plan s → Counted gate s c → P (known c.pass).mine (known c.pass).number (plan_of c)
      → P (entries_of a.history.made n) n plan
  moved P n plan s c f k x =
      let had : List Entry = entries_of a.history.made n in
      subst (λ (ps : List (List ℕ)). P had n ps) (k.plan ∙ f.plan_is)
      (subst (λ (m : ℕ). P had m (plan_of c)) (k.pass.number ∙ ap (λ (p : Part). p.number) f.part)
      (subst (λ (es : List Entry). P es (known c.pass).number (plan_of c)) (counted_had n plan s c f k) x))

  ran_made : (n : ℕ) (plan : List (List ℕ)) (s c t : Sender J G) → Fresh n plan s → Counted gate s c → Ran gate c t → PartMade a n plan (known t.pass)
  ran_made n plan s c t f k r =
      let m = counted_made n plan s c f k in
      record {
        number = r.pass.number ∙ m.number;
        opening = r.pass.opening ∙ m.opening;
        behind = begins_on a.history (known c.pass).seen (known t.pass).seen m.behind r.pass.seen;
        faults = omega (arith, m.faults, r.pass.faults);
        of = moved (λ had number ps. MadeOf had number ps (known t.pass).mine) n plan s c f k (stepped gate c t k.done r).made;
      }

  -- all of the plan, where it met no refusal and was not turned away
  ran_all : (n : ℕ) (plan : List (List ℕ)) (s c t : Sender J G) → Fresh n plan s → Counted gate s c → Ran gate c t → IsThrough t → IsAllMade (entries_of a.history.made n) n plan (known t.pass).mine
  ran_all n plan s c t f k r through = moved (λ had number ps. IsAllMade had number ps (known t.pass).mine) n plan s c f k (all_ran gate c t k.done r through)

  counted_unlost : (n : ℕ) (plan : List (List ℕ)) (s c : Sender J G) → Fresh n plan s → Counted gate s c → (known c.pass).lost ≡ []
  counted_unlost n plan s c f k = k.lost ∙ ap (λ (p : Part). p.lost) f.part

  -- what it met a refusal at is the next of its plan behind what it made
  ran_next : (n : ℕ) (plan : List (List ℕ)) (s c t : Sender J G) → Fresh n plan s → Counted gate s c → Ran gate c t → (met : SubmitFault) (w : WasRefused c t met) → slice_get plan (length (known t.pass).mine) ≡ Some w.payload
  ran_next n plan s c t f k r met w =
      subst (λ (ps : List (List ℕ)). slice_get ps (length (known t.pass).mine) ≡ Some w.payload) (k.plan ∙ f.plan_is) (next_ran gate c t k.done r met w)

  -- all that it made stands in what it has then seen
  ran_seen : (n : ℕ) (plan : List (List ℕ)) (s c t : Sender J G) → Fresh n plan s → Counted gate s c → Ran gate c t → AllByRecursion (IsAmong (known t.pass).seen.made) (known t.pass).mine
  ran_seen n plan s c t f k r =
      let seen : List Entry = (known c.pass).seen.made in
      let begins : IsPrefix a.history.made seen = (counted_made n plan s c f k).behind.made in
      let opened = all_weaker (IsAmong a.history.made) (IsAmong seen) (λ e x. (x.0, prefix_get a.history.made seen x.0 e begins x.1)) (entries_of a.history.made n) (own_among a.history.made n) in
      (stepped gate c t k.done r).stays.own (subst (λ (es : List Entry). AllByRecursion (IsAmong seen) es) (sym (counted_had n plan s c f k)) opened)

  -- what it lost: nothing, or a piece of its plan behind the messages that it made
  ran_loses : (n : ℕ) (plan : List (List ℕ)) (s c t : Sender J G) → Fresh n plan s → Counted gate s c → Ran gate c t → ((known t.pass).lost ≡ []) ⊎ (LosesMessages plan (known t.pass) × (a.history.finished ≢ true))
  ran_loses n plan s c t f k r = ⊎_elim
      (λ same. inl (same ∙ counted_unlost n plan s c f k))
      (λ l.
      let behind : BeginsHistory a.history (known t.pass).seen = (ran_made n plan s c t f k r).behind in
      inr (
        subst (λ (ps : List (List ℕ)). LosesMessages ps (known t.pass)) (k.plan ∙ f.plan_is) l.messages,
        λ was. l.unmarked (sym (ap (λ (h : History). h.finished) (behind.alone was)) ∙ was),
      ))
      (stepped gate c t k.done r).lost

  counted_unended : (n : ℕ) (plan : List (List ℕ)) (s c : Sender J G) → Fresh n plan s → Counted gate s c → (known c.pass).ended ≡ false
  counted_unended n plan s c f k = k.pass.ended ∙ ap (λ (p : Part). p.ended) f.part

module _ {J : Type 0} {G : Ghosts J} (gate : Gate J G) (a : Account) (plans : List (List (List ℕ))) where
  -- so many senders were seated, each with its plan
  pub record AllFresh (senders : List (Sender J G)) : Type 0 where
    pub long : length senders ≡ length plans
    pub each : (i : ℕ) (d : Sender J G) → i < length senders → Fresh gate a (suc i) (plan_in plans (suc i) []) (slice_index_or senders i d)

  -- each made all of its plan
  abbrev pub EachMade : List (Sender J G) → Type 0
  EachMade after =
      (i : ℕ) (d : Sender J G) → i < length after → IsAllMade (entries_of a.history.made (suc i)) (suc i) (plan_in plans (suc i) []) (known (slice_index_or after i d).pass).mine

  -- none made the mark
  abbrev pub NoneEnded : List (Sender J G) → Type 0
  NoneEnded after = (i : ℕ) (d : Sender J G) → i < length after → (known (slice_index_or after i d).pass).ended ≡ false

  -- what a pass of theirs lost: the next messages of its plan, or the mark behind all plans; and nothing marks the history
  pub record PartLoses (after : List (Sender J G)) (i : ℕ) (p : Part) : Type 0 where
    pub opened : a.history.finished ≢ true
    pub unended : NoneEnded after
    pub what : LosesMessages (plan_in plans (suc i) []) p ⊎ ((p.lost ≡ finish ∷ []) × EachMade after)

  -- what all of them know behind a life; where one made the mark, each made all of its plan
  pub record SendersMade (after : List (Sender J G)) : Type 0 where
    pub long : length after ≡ length plans
    pub each : (i : ℕ) (d : Sender J G) → i < length after → PartMade a (suc i) (plan_in plans (suc i) []) (known (slice_index_or after i d).pass)
    pub ended : NoneEnded after ⊎ EachMade after
    pub lost : (i : ℕ) (d : Sender J G) → i < length after → ((known (slice_index_or after i d).pass).lost ≡ []) ⊎ PartLoses after i (known (slice_index_or after i d).pass)

  module _ (seated counted : List (Sender J G)) (fresh : AllFresh seated) (count : CountedEach gate seated counted) where
    count_made : SendersMade counted
    count_made = record {
      long = count.long ∙ fresh.long;
      each = λ i d lt.
          let within : i < length seated = omega (arith, lt, count.long) in
          counted_made gate a (suc i) (plan_in plans (suc i) []) (slice_index_or seated i d) (slice_index_or counted i d) (fresh.each i d within) (count.each i d within);
      ended = inl (λ i d lt.
          let within : i < length seated = omega (arith, lt, count.long) in
          counted_unended gate a (suc i) (plan_in plans (suc i) []) (slice_index_or seated i d) (slice_index_or counted i d) (fresh.each i d within) (count.each i d within));
      lost = λ i d lt.
          let within : i < length seated = omega (arith, lt, count.long) in
          inl (counted_unlost gate a (suc i) (plan_in plans (suc i) []) (slice_index_or seated i d) (slice_index_or counted i d) (fresh.each i d within) (count.each i d within));
    }

    module _ (after : List (Sender J G)) (refused : Option ServeFault) (s : SubmittedAll gate counted after refused) where
      pub ran_within : (i : ℕ) → i < length s.ran → i < length seated
      ran_within i lt = omega (arith, lt, s.each.long, count.long)

      pub ran_at : (i : ℕ) (d : Sender J G) → i < length s.ran → Ran gate (slice_index_or counted i d) (slice_index_or s.ran i d)
      ran_at i d lt = s.each.each i d (omega (arith, lt, s.each.long))

      pub ran_part : (i : ℕ) (d : Sender J G) → i < length s.ran → PartMade a (suc i) (plan_in plans (suc i) []) (known (slice_index_or s.ran i d).pass)
      ran_part i d lt = ran_made gate a (suc i) (plan_in plans (suc i) []) (slice_index_or seated i d) (slice_index_or counted i d) (slice_index_or s.ran i d)
          (fresh.each i d (ran_within i lt)) (count.each i d (ran_within i lt)) (ran_at i d lt)

      pub ran_next_at : (i : ℕ) (d : Sender J G) → i < length s.ran → (met : SubmitFault) (w : WasRefused (slice_index_or counted i d) (slice_index_or s.ran i d) met)
          → slice_get (plan_in plans (suc i) []) (length (known (slice_index_or s.ran i d).pass).mine) ≡ Some w.payload
      ran_next_at i d lt met w = ran_next gate a (suc i) (plan_in plans (suc i) []) (slice_index_or seated i d) (slice_index_or counted i d) (slice_index_or s.ran i d)
          (fresh.each i d (ran_within i lt)) (count.each i d (ran_within i lt)) (ran_at i d lt) met w

      pub ran_seen_at : (i : ℕ) (d : Sender J G) → i < length s.ran → AllByRecursion (IsAmong (known (slice_index_or s.ran i d).pass).seen.made) (known (slice_index_or s.ran i d).pass).mine
      ran_seen_at i d lt = ran_seen gate a (suc i) (plan_in plans (suc i) []) (slice_index_or seated i d) (slice_index_or counted i d) (slice_index_or s.ran i d)
          (fresh.each i d (ran_within i lt)) (count.each i d (ran_within i lt)) (ran_at i d lt)

      ran_unended : (i : ℕ) (d : Sender J G) → i < length s.ran → (known (slice_index_or s.ran i d).pass).ended ≡ false
      ran_unended i d lt = (ran_at i d lt).pass.ended
          ∙ counted_unended gate a (suc i) (plan_in plans (suc i) []) (slice_index_or seated i d) (slice_index_or counted i d) (fresh.each i d (ran_within i lt)) (count.each i d (ran_within i lt))

      ran_whole : All IsThrough s.ran → (i : ℕ) (d : Sender J G) → i < length s.ran → IsAllMade (entries_of a.history.made (suc i)) (suc i) (plan_in plans (suc i) []) (known (slice_index_or s.ran i d).pass).mine
      ran_whole through i d lt = ran_all gate a (suc i) (plan_in plans (suc i) []) (slice_index_or seated i d) (slice_index_or counted i d) (slice_index_or s.ran i d)
          (fresh.each i d (ran_within i lt)) (count.each i d (ran_within i lt)) (ran_at i d lt) (through i d lt)

      lost_at : (i : ℕ) (d : Sender J G) → i < length s.ran
          → ((known (slice_index_or s.ran i d).pass).lost ≡ []) ⊎ (LosesMessages (plan_in plans (suc i) []) (known (slice_index_or s.ran i d).pass) × (a.history.finished ≢ true))
      lost_at i d lt = ran_loses gate a (suc i) (plan_in plans (suc i) []) (slice_index_or seated i d) (slice_index_or counted i d) (slice_index_or s.ran i d)
          (fresh.each i d (ran_within i lt)) (count.each i d (ran_within i lt)) (ran_at i d lt)

      ran_unlost : All IsThrough s.ran → (i : ℕ) (d : Sender J G) → i < length s.ran → (known (slice_index_or s.ran i d).pass).lost ≡ []
      ran_unlost through i d lt = unlost_ran gate (slice_index_or counted i d) (slice_index_or s.ran i d) (count.each i d (ran_within i lt)).done (ran_at i d lt) (through i d lt)
          ∙ counted_unlost gate a (suc i) (plan_in plans (suc i) []) (slice_index_or seated i d) (slice_index_or counted i d) (fresh.each i d (ran_within i lt)) (count.each i d (ran_within i lt))

      ran_many : length s.ran ≡ length plans
      ran_many = s.each.long ∙ count.long ∙ fresh.long

      ran_only : SendersMade s.ran
      ran_only = record {
        long = ran_many;
        each = ran_part;
        ended = inl ran_unended;
        lost = λ i d lt. ⊎_elim (λ e. inl e) (λ l. inr (record { opened = l.1; unended = ran_unended; what = inl l.0 })) (lost_at i d lt);
      }

      with_finish : All IsThrough s.ran → FinishedFirst s.ran after refused → SendersMade after
      with_finish through f = record { long = f.long ∙ ran_many; each = each_at; ended = inr all_at; lost = finish_lost }
        where
          each_at : (i : ℕ) (d : Sender J G) → i < length after → PartMade a (suc i) (plan_in plans (suc i) []) (known (slice_index_or after i d).pass)
          each_at zero d lt = part_still a 1 (plan_in plans 1 []) (known (slice_index_or s.ran 0 d).pass) (known (slice_index_or after 0 d).pass) (ran_part 0 d (omega (arith, lt, f.long))) (f.first d).turn (f.first d).mine
          each_at (suc i) d lt = subst (λ (t : Sender J G). PartMade a (suc (suc i)) (plan_in plans (suc (suc i)) []) (known t.pass)) (sym (f.others (suc i) d (omega arith))) (ran_part (suc i) d (omega (arith, lt, f.long)))

          all_at : (i : ℕ) (d : Sender J G) → i < length after → IsAllMade (entries_of a.history.made (suc i)) (suc i) (plan_in plans (suc i) []) (known (slice_index_or after i d).pass).mine
          all_at zero d lt = (f.first d).mine ∙ ran_whole through 0 d (omega (arith, lt, f.long))
          all_at (suc i) d lt = ap (λ (t : Sender J G). (known t.pass).mine) (f.others (suc i) d (omega arith)) ∙ ran_whole through (suc i) d (omega (arith, lt, f.long))

          -- the first one lost the mark
          loses_mark : (d : Sender J G) → 0 < length after → LosesMark (known (slice_index_or s.ran 0 d).pass) (known (slice_index_or after 0 d).pass) refused
              → PartLoses after 0 (known (slice_index_or after 0 d).pass)
          loses_mark d lt m = record {
            opened = λ was. m.unmarked (sym (ap (λ (h : History). h.finished) ((each_at 0 d lt).behind.alone was)) ∙ was);
            unended = unended_at;
            what = inr (m.lost, all_at);
          }
            where
              unended_at : NoneEnded after
              unended_at zero e within = ap (λ (t : Sender J G). (known t.pass).ended) (get_or_default after 0 e d within) ∙ (m.unended ∙ ran_unended 0 d (omega (arith, within, f.long)))
              unended_at (suc i) e within = ap (λ (t : Sender J G). (known t.pass).ended) (f.others (suc i) e (omega arith)) ∙ ran_unended (suc i) e (omega (arith, within, f.long))

          finish_lost : (i : ℕ) (d : Sender J G) → i < length after → ((known (slice_index_or after i d).pass).lost ≡ []) ⊎ PartLoses after i (known (slice_index_or after i d).pass)
          finish_lost zero d lt = ⊎_elim (λ same. inl (same ∙ ran_unlost through 0 d (omega (arith, lt, f.long)))) (λ m. inr (loses_mark d lt m)) (f.first d).lost
          finish_lost (suc i) d lt = inl (ap (λ (t : Sender J G). (known t.pass).lost) (f.others (suc i) d (omega arith)) ∙ ran_unlost through (suc i) d (omega (arith, lt, f.long)))

      submitted_made : SendersMade after
      submitted_made = by_kind s.finished
        where
          by_kind : ((after ≡ s.ran) × IsRefusal s.ran refused × (0 < length s.ran → (All IsThrough s.ran → ⊥))) ⊎ (All IsThrough s.ran × (0 < length s.ran) × FinishedFirst s.ran after refused) → SendersMade after
          by_kind (inl h) = subst SendersMade (sym h.0) ran_only
          by_kind (inr h) = with_finish h.0 h.2

    -- whether they submitted, or there was no memory to begin
    pub senders_made : {P Q : Type 0} (after : List (Sender J G)) (refused : Option ServeFault) → SubmittedAll gate counted after refused ⊎ ((after ≡ counted) × P × Q) → SendersMade after
    senders_made after refused (inl s) = submitted_made after refused s
    senders_made after refused (inr h) = subst SendersMade (sym h.0) count_made

module _ {J : Type 0} {G : Ghosts J} (gate : Gate J G) where
  -- they are seated out of the passes of a gate that was just made, with the plans of the other end of a list
  pub fresh_seated : (passes : Passes (Kept J G)) (given : List Plan) (senders : List (Sender J G)) → MadeAt gate passes (length given + 1) → length senders ≡ length given
      → SeatedFrom passes (reverse given) senders → AllFresh gate (opening_of gate) (map (λ (p : Plan). payloads_of p) given) senders
  fresh_seated passes given senders made count from = record {
    long = count ∙ sym (length-map given (λ (p : Plan). payloads_of p));
    each = λ i d lt.
        let in_made : In (length given + 1) (i + 1) = record { from_one = omega arith; up_to = omega (arith, lt, count) } in
        let there : known (slice_index_or senders i d).pass ≡ known_at passes (i + 1) = ap (λ (o : Option (Pass (Kept J G))). known_if o) (sym (from.passes_are i d lt)) in
        let part : known (slice_index_or senders i d).pass ≡ new_part (i + 1) (if i + 1 == 1 then length given + 1 else 0) (opening_of gate) = there ∙ (made.each (i + 1) in_made).1 in
        let plans_are : given ≡ map (λ (s : Sender J G). s.plan) senders =
        sym (reverse-reverse given) ∙ (ap reverse from.plans_are ∙ reverse-reverse (map (λ (s : Sender J G). s.plan) senders)) in
        record {
          made = if i + 1 == 1 then length given + 1 else 0;
          part = part ∙ ap (λ (n : ℕ). new_part n (if i + 1 == 1 then length given + 1 else 0) (opening_of gate)) (add-one i);
          plan_is = sym (get_or-map (λ (p : Plan). payloads_of p) given i d.plan [] (omega (arith, lt, count))
              ∙ (ap (λ (ps : List Plan). payloads_of (slice_index_or ps i d.plan)) plans_are ∙ ap (λ (p : Plan). payloads_of p) (get_or-map (λ (s : Sender J G). s.plan) senders i d d.plan lt)));
        };
  }
