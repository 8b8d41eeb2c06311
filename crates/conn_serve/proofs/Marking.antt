-- Where no refusal of the senders of a life is answered, the pass of one of them has seen the mark.
use Rattle.std.proofs.Common.{◌≡◌, ◌≢◌, ◌⊎◌, inl, inr, ℕ, ◌<◌, true, List, length, All, Option, Some, None, Result, Err, refl, sym, ap, subst, ◌∙◌}
use Rattle.std.proofs.lemmas.Bool.{false≢true}
use Rattle.jr_dated.specs.declared.journal.Journal.{Ghosts}
use Rattle.fixp_machine.specs.Machine.{State}
use Rattle.gate_senders.specs.declared.gate.Gate.{Gate}
use Rattle.gate_staff.specs.Runs.{IsAdmitted}
use Rattle.gate_staff.specs.Seats.{Seated}
use Rattle.gate_staff.specs.declared.sender.Sender.{Sender}
use Rattle.conn_door.specs.declared.answer.ServeFault.{ServeFault}
use Rattle.conn_door.specs.declared.answer.ServeFault.TheVariants as faults
use Rattle.conn_door.specs.declared.answer.LifeEnd.{LifeEnd}
use Rattle.conn_door.specs.Answers.{answer_of, IsUnrefused}
use Rattle.conn_door.specs.Flows.{is_sent_again}
use Rattle.conn_door.specs.Senders.{SubmittedAll, SomeMarked, EndedSo}
use Rattle.conn_door.proofs.Marking.{marked_of, firm_of, seated_after, unanswered}
use Rattle.gw_links.specs.declared.link.Link.{Ghosts as LinkGhosts}
use Rattle.conn_serve.specs.Opening.{ServedBy, ServedThrough}
use Rattle.conn_serve.specs.Moments.{ServingAt}

not_memory : (connections : Result LifeEnd ServeFault) (refused : Option ServeFault) (answer : Result (Unit {0}) ServeFault) → refused ≡ None → connections ≡ Err faults.Memory → answer ≡ answer_of connections refused
    → IsUnrefused answer → ⊥
not_memory connections refused answer none memory is u =
    false≢true (subst IsUnrefused (is ∙ (ap (answer_of connections) none ∙ ap (λ (c : Result LifeEnd ServeFault). answer_of c None) memory)) u)

module _ {J : Type 0} {G : Ghosts J} {O : Type 0} {H : Ghosts O} where
  pub marked_by : (gate : Gate O H) (old new : ServingAt J G O H) (m : State) (result : Result (Unit {0}) ServeFault)
      → ServedBy gate old new m result → (IsUnrefused result → All IsAdmitted new.senders) → IsUnrefused result → 0 < length old.senders → SomeMarked new.senders
  marked_by gate old new m result s admitted u many = by_kind s.senders s.refused refl
    where
      answered : (o : Option ServeFault) → s.refused ≡ o → IsUnrefused (answer_of s.connections o)
      answered o e = subst IsUnrefused (s.answer ∙ ap (answer_of s.connections) e) u

      by_kind : SubmittedAll gate old.senders new.senders s.refused ⊎ ((new.senders ≡ old.senders) × (s.refused ≡ None) × (s.connections ≡ Err faults.Memory)) → (o : Option ServeFault) → s.refused ≡ o → SomeMarked new.senders
      by_kind (inl x) None e = marked_of gate old.senders new.senders (subst (SubmittedAll gate old.senders new.senders) e x) (admitted u) many
      by_kind (inl x) (Some f) e = absurd (unanswered s.connections f (firm_of gate old.senders new.senders f (subst (SubmittedAll gate old.senders new.senders) e x)) (answered (Some f) e))
      by_kind (inr x) o e = absurd (false≢true (subst (λ (r : Result LifeEnd ServeFault). IsUnrefused (answer_of r None)) x.2 (answered None x.1)))

  pub seated_by : (gate : Gate O H) (old new : ServingAt J G O H) (m : State) (result : Result (Unit {0}) ServeFault)
      → ServedBy gate old new m result → (made : ℕ) → Seated gate old.senders made → Seated gate new.senders made
  seated_by gate old new m result s made h = by_kind s.senders
    where
      by_kind : SubmittedAll gate old.senders new.senders s.refused ⊎ ((new.senders ≡ old.senders) × (s.refused ≡ None) × (s.connections ≡ Err faults.Memory)) → Seated gate new.senders made
      by_kind (inl x) = seated_after gate made old.senders new.senders s.refused x h
      by_kind (inr x) = subst (λ (l : List (Sender O H)). Seated gate l made) (sym x.0) h

  -- a life whose senders went on behind it, where it was to
  pub went_on : {L : Type 0} {links : LinkGhosts L} {first last : ℕ} (gate : Gate O H) (old mid : ServingAt J G O H) (after : List (Sender O H)) (m : State) (answer result : Result (Unit {0}) ServeFault)
      → ServedThrough links first last gate old mid m answer → (All IsAdmitted mid.senders → after ≡ mid.senders) → ((IsUnrefused answer → ⊥) → (after ≡ mid.senders) × (result ≡ answer))
      → ((connections : Result LifeEnd ServeFault) (refused : Option ServeFault) → SubmittedAll gate old.senders mid.senders refused → answer ≡ answer_of connections refused → EndedSo gate old.senders after connections result)
      → ServedThrough links first last gate old (record mid { senders = after }) m result
  went_on {links = links} {first = first} {last = last} gate old mid after m answer result s same kept behind = by_kind s.senders
    where
      admitted : is_sent_again m.config.own_flow ≡ true → s.connections ≢ Err faults.Memory → All IsAdmitted after
      admitted again never = let all = s.admitted again never in subst (All IsAdmitted) (sym (same all)) all

      by_kind : SubmittedAll gate old.senders mid.senders s.refused ⊎ ((mid.senders ≡ old.senders) × (s.refused ≡ None) × (s.connections ≡ Err faults.Memory)) → ServedThrough links first last gate old (record mid { senders = after }) m result
      by_kind (inl x) =
          let e = behind s.connections s.refused x s.answer in
          record { connections = s.connections; refused = e.refused; life = s.life; blamed = s.blamed; senders = inl e.submitted; answer = e.answer; admitted = admitted }
      by_kind (inr x) =
          let k = kept (not_memory s.connections s.refused answer x.1 x.2 s.answer) in
          record { connections = s.connections; refused = s.refused; life = s.life; blamed = s.blamed; senders = inr (k.0 ∙ x.0, x.1, x.2); answer = k.1 ∙ s.answer; admitted = admitted }

  pub all_admitted : {L : Type 0} {links : LinkGhosts L} {first last : ℕ} (gate : Gate O H) (old mid : ServingAt J G O H) (after : List (Sender O H)) (m : State) (answer result : Result (Unit {0}) ServeFault)
      → ServedThrough links first last gate old mid m answer → ((IsUnrefused answer → ⊥) → (after ≡ mid.senders) × (result ≡ answer))
      → ((connections : Result LifeEnd ServeFault) (refused : Option ServeFault) → SubmittedAll gate old.senders mid.senders refused → answer ≡ answer_of connections refused → EndedSo gate old.senders after connections result)
      → IsUnrefused result → All IsAdmitted after
  all_admitted gate old mid after m answer result s kept behind u = by_kind s.senders
    where
      by_kind : SubmittedAll gate old.senders mid.senders s.refused ⊎ ((mid.senders ≡ old.senders) × (s.refused ≡ None) × (s.connections ≡ Err faults.Memory)) → All IsAdmitted after
      by_kind (inl x) = (behind s.connections s.refused x s.answer).admitted u
      by_kind (inr x) =
          let never = not_memory s.connections s.refused answer x.1 x.2 s.answer in
          absurd (never (subst IsUnrefused (kept never).1 u))
