-- The outbox is served: what it was sent again, what live, and its finish.
use Rattle.std.proofs.Common.{◌≡◌, ℕ, ◌<◌, Bool, true, false, if◌then◌else◌, length, List, ◌++◌, Option, Some, None, refl, sym, ap, subst, ◌∙◌}
use Rattle.std.specs.Prelude.{is_some}
use Rattle.session_model.specs.Journal.{History, BeginsHistory}
use Rattle.fixp_msgs.specs.declared.numbering.Range.{Range}
use Rattle.fixp_machine.specs.Machine.{State, Call, run}
use Rattle.conn_turns.specs.Lines.{Line}
use Rattle.conn_turns.specs.Turns.{again_calls, live_calls, finish_calls, served_of, served_now, live_of, live_beside, finish_of}
use Rattle.gate_turn.proofs.Histories.{begins_self}
use Rattle.conn_turns.specs.Exact.{IsAsDue, unless_waits}
use Rattle.conn_turns.proofs.Taking.{run_append}
use Rattle.conn_steps.proofs.Following.{line_is}
use Rattle.jr_dated.specs.declared.faults.FetchFault.{FetchFault}
use Rattle.jr_dated.specs.declared.faults.FetchFault.TheVariants as fetching
use Rattle.gate_turn.specs.Views.{HasFailed, Part}
use Rattle.conn_turns.specs.declared.answer.TurnFault.{TurnFault}
use Rattle.conn_loop.specs.Serving.{SentDue, ServedOutbox, BlamesPass, fault_of}
use Rattle.conn_loop.proofs.Machine.{finish_same}

-- live entries are due unless a range is served
beside_is : (most : ℕ) (serving : Option Range) (h : History) (sent due : Option (List (List ℕ))) → IsAsDue (served_of most serving h) sent → (if is_some serving then None else due) ≡ live_beside sent due
beside_is most None h None due fits = refl
beside_is most None h (Some ps) due fits = absurd fits
beside_is most (Some r) h None due fits = absurd fits
beside_is most (Some r) h (Some ps) due fits = refl

-- where no output waited all is due
all_due : {A : Type 0} (l : Line) (due : Option A) → l.waits ≡ false → unless_waits l due ≡ due
all_due l due free = ap (λ (w : Bool). if w then None else due) free

-- where some did nothing is
pub none_served : (tells : Type 0) (now : ℕ) (h : History) (old : Line) → old.waits ≡ true → ServedOutbox tells now h h old old
none_served tells now h old waits = record {
  due_again = None;
  due_live = None;
  again = None;
  live = None;
  finish = None;
  at_again = h;
  due_again_is = sym (none_due_at old _ waits);
  due_live_is = sym (none_due_at old _ waits);
  again_is = tt;
  live_is = tt;
  faithful = λ _. (refl, refl);
  finish_is = sym (none_due_at old _ waits);
  seen_again = begins_self h;
  seen_live = begins_self h;
  line = refl;
}
  where
    none_due_at : {A : Type 0} (l : Line) (due : Option A) → l.waits ≡ true → unless_waits l due ≡ None
    none_due_at l due waits = ap (λ (w : Bool). if w then None else due) waits

pub served_outbox : (tells : Type 0) (now : ℕ) (h first last : History) (old one two new : Line) → BeginsHistory h first → BeginsHistory first last
    → SentDue tells (served_of old.per_turn (served_now old.machine) first) (again_calls now) old one
    → SentDue tells (if is_some (served_now old.machine) then None else live_of one.per_turn one.machine last) (live_calls now) one two
    → new ≡ record two { machine = run two.machine (finish_calls now (finish_of one.machine last)) }
    → one.machine.config ≡ old.machine.config → old.waits ≡ false → ServedOutbox tells now h last old new
served_outbox tells now h first last old one two new begins goes_on again live finish config free =
    let sent = again.sent in
    let m = run old.machine (again_calls now sent) in
    let more = live.sent in
    let told = finish_of old.machine last in
    let here : one.machine ≡ m = ap (λ (l : Line). l.machine) again.line in
    let number : one.per_turn ≡ old.per_turn = ap (λ (l : Line). l.per_turn) again.line in
    let due : (if is_some (served_now old.machine) then None else live_of one.per_turn one.machine last) ≡ live_beside sent (live_of old.per_turn m last)
    = beside_is old.per_turn (served_now old.machine) first sent (live_of one.per_turn one.machine last) again.as_due
    ∙ (ap (λ (n : ℕ). live_beside sent (live_of n one.machine last)) number ∙ ap (λ (s : State). live_beside sent (live_of old.per_turn s last)) here) in
    let there : two.machine ≡ run m (live_calls now more) = ap (λ (l : Line). l.machine) live.line ∙ ap (λ (s : State). run s (live_calls now more)) here in
    record {
      due_again = served_of old.per_turn (served_now old.machine) first;
      due_live = live_beside sent (live_of old.per_turn m last);
      again = sent;
      live = more;
      finish = told;
      at_again = first;
      due_again_is = sym (all_due old (served_of old.per_turn (served_now old.machine) first) free);
      due_live_is = sym (all_due old (live_beside sent (live_of old.per_turn m last)) free);
      again_is = again.as_due;
      live_is = subst (λ (o : Option (List (List ℕ))). IsAsDue o more) due live.as_due;
      faithful = λ t. (again.told t, live.told t ∙ due);
      finish_is = sym (all_due old told free);
      seen_again = begins;
      seen_live = goes_on;
      line = line_is _ _
          (ap (λ (l : Line). l.machine) finish
          ∙ (ap (λ (o : Option ℕ). run two.machine (finish_calls now o)) (finish_same old.machine one.machine last config)
          ∙ (ap (λ (s : State). run s (finish_calls now told)) there
          ∙ (sym (run_append m (live_calls now more) (finish_calls now told)) ∙ sym (run_append old.machine (again_calls now sent) (live_calls now more ++ finish_calls now told))))))
          (ap (λ (l : Line). l.held) finish ∙ (ap (λ (l : Line). l.held) live.line ∙ ap (λ (l : Line). l.held) again.line))
          (ap (λ (l : Line). l.place) finish ∙ (ap (λ (l : Line). l.place) live.line ∙ ap (λ (l : Line). l.place) again.line))
          (ap (λ (l : Line). l.over) finish ∙ (ap (λ (l : Line). l.over) live.line ∙ ap (λ (l : Line). l.over) again.line))
          (ap (λ (l : Line). l.serves) finish ∙ (ap (λ (l : Line). l.serves) live.line ∙ ap (λ (l : Line). l.serves) again.line))
          (ap (λ (l : Line). l.waits) finish ∙ (ap (λ (l : Line). l.waits) live.line ∙ ap (λ (l : Line). l.waits) again.line))
          (ap (λ (l : Line). l.per_turn) finish ∙ (ap (λ (l : Line). l.per_turn) live.line ∙ ap (λ (l : Line). l.per_turn) again.line));
    }

-- nothing is due, and nothing is sent
pub none_due : (tells : Type 0) (due : Option (List (List ℕ))) (calls : Option (List (List ℕ)) → List Call) (old new : Line) → due ≡ None → new ≡ record old { machine = run old.machine (calls None) }
    → SentDue tells due calls old new
none_due tells due calls old new none line = record {
  sent = None;
  as_due = subst (λ (o : Option (List (List ℕ))). IsAsDue o None) (sym none) tt;
  told = λ t. sym none;
  line = line;
}

-- what a fault of a read of the outbox is to the pass
pub blames_of : (tells : Type 0) (p q : Part) (f : FetchFault) (fault : TurnFault) → fault ≡ fault_of f → (f ≡ fetching.Fault → HasFailed p.faults q.faults) → (f ≡ fetching.Broken → HasFailed q.opening.faults q.faults)
    → ((at : ℕ) → f ≡ fetching.Changed at → (at < length q.seen.made) × (tells → ⊥)) → BlamesPass tells p q fault
blames_of tells p q f fault is failed broken changed = subst (λ (x : TurnFault). BlamesPass tells p q x) (sym is) (by_fault f failed broken changed)
  where
    by_fault : (f : FetchFault) → (f ≡ fetching.Fault → HasFailed p.faults q.faults) → (f ≡ fetching.Broken → HasFailed q.opening.faults q.faults)
        → ((at : ℕ) → f ≡ fetching.Changed at → (at < length q.seen.made) × (tells → ⊥)) → BlamesPass tells p q (fault_of f)
    by_fault fetching.Broken failed broken changed =
        record { failed = λ e. cc; broken = λ _. broken refl; no_other = (λ e. cc, λ e. cc); changed = λ at e. cc; never_full = λ entries bytes e. cc }
    by_fault fetching.Memory failed broken changed =
        record { failed = λ e. cc; broken = λ e. cc; no_other = (λ e. cc, λ e. cc); changed = λ at e. cc; never_full = λ entries bytes e. cc }
    by_fault fetching.Fault failed broken changed =
        record { failed = λ _. failed refl; broken = λ e. cc; no_other = (λ e. cc, λ e. cc); changed = λ at e. cc; never_full = λ entries bytes e. cc }
    by_fault (fetching.Changed at) failed broken changed = record {
      failed = λ e. cc;
      broken = λ e. cc;
      no_other = (λ e. cc, λ e. cc);
      changed = λ n e. let same : at ≡ n = cc e in subst (λ (k : ℕ). (k < length q.seen.made) × (tells → ⊥)) same (changed at refl);
      never_full = λ entries bytes e. cc;
    }
