-- What senders of plans did, with refusals as a life answers them.
use Rattle.std.proofs.Common.{◌≡◌, ◌⊎◌, inl, inr, ⊎_elim, ◌<◌, List, length, slice_index_or, All, Option, Some, None, refl, sym, ap, subst, ◌∙◌, arith}
use Rattle.std.specs.Prelude.{option_map}
use Rattle.std.proofs.lemmas.Option.{none-some, same_Some}
use Rattle.jr_dated.specs.declared.journal.Journal.{Ghosts}
use Rattle.jr_boxes.specs.declared.faults.SubmitFault.{SubmitFault}
use Rattle.gate_turn.specs.Views.{Part}
use Rattle.gate_turn.specs.Places.{known}
use Rattle.gate_senders.specs.Gate.{senders_of}
use Rattle.gate_senders.specs.declared.gate.Gate.{Gate}
use Rattle.gate_staff.specs.Business.{lock_of}
use Rattle.gate_staff.specs.Faults as reasons
use Rattle.gate_staff.specs.Plans.{SetOut, Did}
use Rattle.gate_staff.specs.Runs.{IsReady, RanEach, IsAdmitted, IsThrough}
use Rattle.gate_staff.specs.Submitted as senders
use Rattle.gate_staff.specs.declared.fault.StaffFault.{StaffFault}
use Rattle.gate_staff.specs.declared.fault.StaffFault.TheVariants as staff
use Rattle.gate_staff.specs.declared.plans.Plans.{Plans}
use Rattle.gate_staff.specs.declared.sender.Sender.{Sender}
use Rattle.gate_staff.proofs.Leaving.{ran_before}
use Rattle.gate_staff.proofs.Running.{each_set_out, each_resumed}
use Rattle.conn_door.specs.Answers.{served}
use Rattle.conn_door.specs.Senders.{Finishes, refusal_of, IsRefusal, FinishedFirst, SubmittedAll}
use Rattle.conn_door.specs.declared.answer.ServeFault.{ServeFault}
use Rattle.conn_door.specs.declared.answer.ServeFault.TheVariants as faults

abbrev same_fault : StaffFault → StaffFault
same_fault f = f

none_back : (why : Option StaffFault) → option_map served why ≡ None → why ≡ None
none_back None e = refl
none_back (Some f) e = absurd (cc e)

journal_back : (why : Option StaffFault) → option_map served why ≡ Some faults.Journal → why ≡ Some staff.Journal
journal_back None e = absurd (cc e)
journal_back (Some staff.Journal) e = refl
journal_back (Some (staff.Full n m)) e = absurd (cc e)
journal_back (Some staff.Memory) e = absurd (cc e)

few_on : (why : Option StaffFault) (fault : ServeFault) → option_map served why ≡ Some fault → ((f : StaffFault) → why ≡ Some f → (f ≡ staff.Journal) ⊎ (f ≡ staff.Memory)) → (fault ≡ faults.Journal) ⊎ (fault ≡ faults.Memory)
few_on None fault e few = absurd (none-some fault e)
few_on (Some f) fault e few =
    let is = same_Some (served f) fault e in
    ⊎_elim (λ j. inl (sym is ∙ ap served j)) (λ m. inr (sym is ∙ ap served m)) (few f refl)

pub finishes_served : (p q : Part) (why : Option StaffFault) → senders.Finishes same_fault p q why → Finishes p q (option_map served why)
finishes_served p q why f = record {
  turn = f.turn;
  mine = f.mine;
  lost = ⊎_elim (λ e. inl e) (λ m. inr (record { lost = m.lost; broken = m.broken; unmarked = m.unmarked; unended = m.unended; blamed = ap (λ (o : Option StaffFault). option_map served o) m.blamed })) f.lost;
  marked = λ e. f.marked (none_back why e);
  journal = λ e. f.journal (journal_back why e);
  few = λ fault e. few_on why fault e f.few;
}

none_on : (o : Option SubmitFault) → senders.refusal_of same_fault o ≡ None → refusal_of o ≡ None
none_on None e = refl
none_on (Some f) e = of (reasons.submit_fault f) e
  where
    of : (x : Option StaffFault) → option_map same_fault x ≡ None → option_map served x ≡ None
    of None e = refl
    of (Some y) e = absurd (cc e)

some_on : (o : Option SubmitFault) (fault : StaffFault) → senders.refusal_of same_fault o ≡ Some fault → refusal_of o ≡ Some (served fault)
some_on None fault e = absurd (none-some fault e)
some_on (Some f) fault e = of (reasons.submit_fault f) e
  where
    of : (x : Option StaffFault) → option_map same_fault x ≡ Some fault → option_map served x ≡ Some (served fault)
    of None e = absurd (none-some fault e)
    of (Some y) e = ap (λ z. Some (served z)) (same_Some y fault e)

module _ {O : Type 0} {H : Ghosts O} where
  refusal_served : (ran : List (Sender O H)) (why : Option StaffFault) → senders.IsRefusal same_fault ran why → IsRefusal ran (option_map served why)
  refusal_served ran None all = λ i d lt. none_on (slice_index_or ran i d).refused (all i d lt)
  refusal_served ran (Some f) m = record { sender = m.sender; there = m.there; is = some_on m.sender.refused f m.is }

  first_served : (ran after : List (Sender O H)) (why : Option StaffFault) → senders.FinishedFirst same_fault ran after why → FinishedFirst ran after (option_map served why)
  first_served ran after why f = record {
    long = f.long;
    first = λ d. finishes_served (known (slice_index_or ran 0 d).pass) (known (slice_index_or after 0 d).pass) why (f.first d);
    rest = f.rest;
    others = f.others;
  }

  finished_served : (ran after : List (Sender O H)) (why : Option StaffFault) → senders.IsFinished same_fault ran after why → senders.IsFinished served ran after (option_map served why)
  finished_served ran after why (inl x) = inl (x.0, refusal_served ran why x.1, x.2)
  finished_served ran after why (inr x) = inr (x.0, x.1, first_served ran after why x.2)

  submitted_served : (Each : List (Sender O H) → Type 0) (gate : Gate O H) (ran after : List (Sender O H)) (why : Option StaffFault) → Each ran → senders.IsFinished same_fault ran after why → All (IsReady gate) after
      → senders.Submitted served Each gate after (option_map served why)
  submitted_served Each gate ran after why each finished ready = record { ran = ran; each = each; finished = finished_served ran after why finished; ready = ready }

  -- those that were set out are ready
  pub ready_set : (gate : Gate O H) (before set : List (Sender O H)) → SetOut before set → All (IsReady gate) before → All (IsReady gate) set
  ready_set gate before set out ready = λ i d lt.
      let here : i < length before = omega (arith, lt, out.long) in
      let r = ready i d here in
      subst (λ (x : Sender O H). IsReady gate x) (sym (out.each i d here)) (record { own = r.own; free = r.free })

  pub ready_after : (gate : Gate O H) (before after : Plans O H) → Did (lock_of gate) (senders_of gate) before after → All (IsReady gate) after.senders.items
  ready_after gate before after did = (did gate refl refl).went.ready

  -- all were set out, and a run was done
  pub submitted_of : (gate : Gate O H) (before : List (Sender O H)) (set after : Plans O H) → SetOut before set.senders.items → Did (lock_of gate) (senders_of gate) set after
      → SubmittedAll gate before after.senders.items (option_map served after.why)
  submitted_of gate before set after out did =
      let went = (did gate refl refl).went in
      submitted_served (RanEach gate before) gate went.ran after.senders.items after.why (each_set_out gate before set.senders.items went.ran out went.each) went.finished went.ready

  -- one was turned away, and a run was done behind that
  pub one_run_of : (gate : Gate O H) (before : List (Sender O H)) (middle after : Plans O H) (refused : Option ServeFault) → SubmittedAll gate before middle.senders.items refused
      → (All IsAdmitted middle.senders.items → ⊥) → Did (lock_of gate) (senders_of gate) middle after → SubmittedAll gate before after.senders.items (option_map served after.why)
  one_run_of gate before middle after refused s some did =
      let went = (did gate refl refl).went in
      submitted_served (RanEach gate before) gate went.ran after.senders.items after.why
      (each_resumed gate before middle.senders.items went.ran (ran_before served (RanEach gate before) gate middle.senders.items refused s some) went.each) went.finished went.ready
