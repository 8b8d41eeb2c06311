-- An outbox that keeps plans, in the words of the session model.
use Rattle.std.proofs.Common.{◌≡◌, inl, ℕ, zero, suc, Bool, true, false, List, [], ◌∷◌, ◌++◌, map, refl, sym, ap, subst, ◌∙◌, append-nil}
use mathlib.Core.List.{IsPrefix}
use Rattle.session_model.specs.Journal.{Entry, OutboxRecord, entry, entries, History, is_finished, history_of, BeginsHistory, InOrder}
use Rattle.session_model.specs.Inbox.{applied, payloads_of}
use Rattle.session_model.specs.Plans.{sent_by, Continues, Completes, SendersDone}
use Rattle.session_model.specs.Lives.{Life, IsImage, KeepsOutbox}
use Rattle.session_model.proofs.Lists.{prefix_self, prefix_equal, prefix_trans, prefix_map, prefix_of_append}
use Rattle.jr_boxes.specs.Outboxes.{mark_of, outbox_of}
use Rattle.life_laws.specs.Plans.{plan_in, KeepsPlans, GoesOnWith}
use Rattle.life_laws.specs.PlanLaws.{PlansKeepOutbox}

-- the records of a history have its entries, and its mark
entries_of_records : (es : List Entry) (b : Bool) → entries (map (λ (e : Entry). entry e) es ++ mark_of b) ≡ es
entries_of_records [] true = refl
entries_of_records [] false = refl
entries_of_records (e ∷ es) b = ap (λ (ds : List Entry). e ∷ ds) (entries_of_records es b)

mark_of_records : (es : List Entry) (b : Bool) → is_finished (map (λ (e : Entry). entry e) es ++ mark_of b) ≡ b
mark_of_records [] true = refl
mark_of_records [] false = refl
mark_of_records (e ∷ es) b = mark_of_records es b

pub entries-outbox_of : (h : History) → entries (outbox_of h) ≡ h.made
entries-outbox_of h = entries_of_records h.made h.finished

pub history_of-outbox_of : (h : History) → history_of (outbox_of h) ≡ h
history_of-outbox_of h =
    ap (λ (es : List Entry). record { made = es; finished = is_finished (outbox_of h) }) (entries-outbox_of h) ∙ ap (λ (b : Bool). record { made = h.made; finished = b }) (mark_of_records h.made h.finished)

-- a history that begins another has records that begin the other's
pub outbox_begins : (o c : History) → BeginsHistory o c → IsPrefix (outbox_of o) (outbox_of c)
outbox_begins o c b = by_mark o.finished refl
  where
    made : IsPrefix (map (λ (e : Entry). entry e) o.made) (outbox_of c)
    made = prefix_trans (map (λ (e : Entry). entry e) o.made) (map (λ (e : Entry). entry e) c.made) (outbox_of c) (prefix_map (λ (e : Entry). entry e) o.made c.made b.made)
        (prefix_of_append (map (λ (e : Entry). entry e) c.made) (mark_of c.finished))

    by_mark : (m : Bool) → o.finished ≡ m → IsPrefix (outbox_of o) (outbox_of c)
    by_mark true is = prefix_equal (outbox_of o) (outbox_of c) (ap (λ (h : History). outbox_of h) (b.alone is))
    by_mark false is = subst (λ (rs : List OutboxRecord). IsPrefix rs (outbox_of c))
        (sym (ap (λ (m : Bool). map (λ (e : Entry). entry e) o.made ++ mark_of m) is ∙ append-nil (map (λ (e : Entry). entry e) o.made))) made

plan_is : (plans : List (List (List ℕ))) (s : ℕ) (applied other : List (List ℕ)) → plan_in plans s applied ≡ plan_in plans s other
plan_is plans zero applied other = refl
plan_is plans (suc s) applied other = refl

-- a history that keeps plans, by its records
module _ (plans : List (List (List ℕ))) (o x : History) (life : Life) (k : KeepsPlans plans o x) (grown : IsPrefix life.served.opening_inbox life.served.closing_inbox) where
  continues : (ps : List (List ℕ)) (s : ℕ) → Continues (plan_in plans s ps) (sent_by (entries (outbox_of o)) s) (sent_by (entries (outbox_of x)) s)
  continues ps s = subst (λ (plan : List (List ℕ)). Continues plan (sent_by (entries (outbox_of o)) s) (sent_by (entries (outbox_of x)) s)) (plan_is plans s [] ps)
      (subst (λ (es : List Entry). Continues (plan_in plans s []) (sent_by es s) (sent_by (entries (outbox_of x)) s)) (sym (entries-outbox_of o))
      (subst (λ (es : List Entry). Continues (plan_in plans s []) (sent_by o.made s) (sent_by es s)) (sym (entries-outbox_of x)) (k.each s)))

  completes : o.finished ≡ false → x.finished ≡ true → (ps : List (List ℕ)) (s : ℕ) → Completes (plan_in plans s ps) (sent_by (entries (outbox_of o)) s) (sent_by (entries (outbox_of x)) s)
  completes open_is marked ps s = subst (λ (plan : List (List ℕ)). Completes plan (sent_by (entries (outbox_of o)) s) (sent_by (entries (outbox_of x)) s)) (plan_is plans s [] ps)
      (subst (λ (es : List Entry). Completes (plan_in plans s []) (sent_by es s) (sent_by (entries (outbox_of x)) s)) (sym (entries-outbox_of o))
      (subst (λ (es : List Entry). Completes (plan_in plans s []) (sent_by o.made s) (sent_by es s)) (sym (entries-outbox_of x)) (k.done open_is marked s)))

  done : is_finished (outbox_of o) ≡ false → is_finished (outbox_of x) ≡ true → SendersDone (plan_in plans) (entries (outbox_of o)) (entries (outbox_of x)) life.served.opening_inbox life.served.closing_inbox
  done open_is marked = record {
    answered = life.served.closing_inbox;
    opened = grown;
    reached = prefix_self life.served.closing_inbox;
    peer_done = inl (plan_is plans);
    all_sent = completes (sym (mark_of_records o.made o.finished) ∙ open_is) (sym (mark_of_records x.made x.finished) ∙ marked) (payloads_of (applied life.served.closing_inbox));
  }

  begins : BeginsHistory (history_of (outbox_of o)) (history_of (outbox_of x))
  begins = subst (λ (h : History). BeginsHistory h (history_of (outbox_of x))) (sym (history_of-outbox_of o)) (subst (λ (h : History). BeginsHistory o h) (sym (history_of-outbox_of x)) k.begins)

module _ (plans : List (List (List ℕ))) (o c : History) (refused : List OutboxRecord) (life : Life) (k : KeepsPlans plans o c) (order : InOrder c.made)
    (goes : GoesOnWith plans o c refused) (grown : IsPrefix life.served.opening_inbox life.served.closing_inbox) where
  abbrev over : Life
  over = record { opening_outbox = outbox_of o; closing_outbox = outbox_of c; refused_outbox = refused; served = life.served }

  -- what holds of the records of each history in order that keeps the plans holds of each image
  each_image : (P : List OutboxRecord → Type 0) → ((x : History) → KeepsPlans plans o x → InOrder x.made → P (outbox_of x)) → (image : List OutboxRecord) → IsImage (outbox_of c) refused image → P image
  each_image P at image g =
      let by = goes g.kept g.beginning in
      subst P (sym (g.holds ∙ by.goes_on)) (at by.whole by.keeps (by.in_order order))

  kept : KeepsOutbox (plan_in plans) over
  kept = record {
    outbox_grows = outbox_begins o c k.begins;
    history_grows = each_image (λ (rs : List OutboxRecord). BeginsHistory (history_of (outbox_of o)) (history_of rs)) (λ x kx _. begins plans o x life kx grown);
    in_order = each_image (λ (rs : List OutboxRecord). InOrder (entries rs)) (λ x kx ordered. subst InOrder (sym (entries-outbox_of x)) ordered);
    plans = λ image g s.
        let applied_then : List (List ℕ) = payloads_of (applied life.served.closing_inbox) in
        each_image (λ (rs : List OutboxRecord). Continues (plan_in plans s applied_then) (sent_by (entries (outbox_of o)) s) (sent_by (entries rs) s))
        (λ x kx _. continues plans o x life kx grown applied_then s) image g;
    finishes = λ image g open_is.
        each_image (λ (rs : List OutboxRecord). is_finished rs ≡ true → SendersDone (plan_in plans) (entries (outbox_of o)) (entries rs) life.served.opening_inbox life.served.closing_inbox)
        (λ x kx _. done plans o x life kx grown open_is) image g;
  }

  same_life : life.opening_outbox ≡ outbox_of o → life.closing_outbox ≡ outbox_of c → life.refused_outbox ≡ refused → over ≡ life
  same_life opening closing lost =
      ap (λ (rs : List OutboxRecord). record { opening_outbox = rs; closing_outbox = outbox_of c; refused_outbox = refused; served = life.served }) (sym opening)
      ∙ ap (λ (rs : List OutboxRecord). record { opening_outbox = life.opening_outbox; closing_outbox = rs; refused_outbox = refused; served = life.served }) (sym closing)
      ∙ ap (λ (rs : List OutboxRecord). record { opening_outbox = life.opening_outbox; closing_outbox = life.closing_outbox; refused_outbox = rs; served = life.served }) (sym lost)

pub plans_keep_outbox : PlansKeepOutbox
plans_keep_outbox plans o c life k order goes opening closing grown =
    subst (λ (l : Life). KeepsOutbox (plan_in plans) l)
    (same_life plans o c life.refused_outbox life k order goes grown opening closing refl)
    (kept plans o c life.refused_outbox life k order goes grown)
