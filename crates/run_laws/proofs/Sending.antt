-- A life keeps its outbox by what the outbox has of each sender in the end.
use Rattle.std.proofs.Common.{◌≡◌, inl, ℕ, true, List, ◌++◌, length, drop, refl, sym, ap, subst, ◌∙◌, append_assoc}
use mathlib.Core.List.{IsPrefix}
use Rattle.session_model.specs.Journal.{Entry, OutboxRecord, entries, History, is_finished, history_of, BeginsHistory, InOrder, entries_of}
use Rattle.session_model.specs.Plans.{sent_by, Continues, Completes, SendersDone}
use Rattle.session_model.specs.Lives.{Life, IsImage, KeepsOutbox}
use Rattle.session_model.proofs.Lists.{prefix_self, prefix_trans, prefix_map, drop_length}
use Rattle.session_model.proofs.Journals.{prefix_entries, prefix_entries_of}
use Rattle.session_model.proofs.Chains.{image_begins}
use Rattle.jr_boxes.specs.Outboxes.{outbox_of}
use Rattle.life_laws.proofs.Outboxes.{entries-outbox_of}
use Rattle.run_laws.proofs.Ordered.{begins_within, order_of_first}

-- the plan of each sender, whatever was applied: what these records have of it
abbrev pub plan_of : List OutboxRecord → ℕ → List (List ℕ) → List (List ℕ)
plan_of o s ps = sent_by (entries o) s

pub prefix_sent : (es longer : List Entry) (s : ℕ) → IsPrefix es longer → IsPrefix (sent_by es s) (sent_by longer s)
prefix_sent es longer s p = prefix_map (λ (e : Entry). e.payload) (entries_of es s) (entries_of longer s) (prefix_entries_of es longer s p)

-- of three lists, each of which begins the next, the second continues the third behind the first
continues : (a b c : List (List ℕ)) → IsPrefix a b → IsPrefix b c → Continues c a b
continues a b c p q = record {
  more = p.0;
  behind = sym p.1;
  planned = (q.0, sym (drop_length a (p.0 ++ q.0)) ∙ ap (λ (xs : List (List ℕ)). drop (length a) xs) (sym (append_assoc a p.0 q.0) ∙ (ap (λ (xs : List (List ℕ)). xs ++ q.0) p.1 ∙ q.1)));
}

completes : (a b : List (List ℕ)) → IsPrefix a b → Completes b a b
completes a b p = record { behind = sym p.1 ∙ ap (λ (xs : List (List ℕ)). a ++ xs) (sym (drop_length a p.0) ∙ ap (λ (xs : List (List ℕ)). drop (length a) xs) p.1) }

-- A life that opened and closed on such records, of which a stop left those that were kept, and no others: they begin the records of a history
-- in order, and in the end the outbox goes on from them
pub record GoesOn (life : Life) (o : List OutboxRecord) : Type 0 where
  pub whole : History
  pub in_order : InOrder whole.made
  pub opened : IsPrefix life.opening_outbox life.closing_outbox
  pub within : IsPrefix (life.closing_outbox ++ life.refused_outbox) (outbox_of whole)
  pub begins : BeginsHistory (history_of (life.closing_outbox ++ life.refused_outbox)) (history_of o)
  pub grown : IsPrefix life.served.opening_inbox life.served.closing_inbox

module _ (life : Life) (o : List OutboxRecord) (g : GoesOn life o) (image : List OutboxRecord) (is : IsImage life.closing_outbox life.refused_outbox image) where
  abbrev left : List OutboxRecord
  left = life.closing_outbox ++ life.refused_outbox

  -- the image is between what was opened and what is left
  opened_image : IsPrefix life.opening_outbox image
  opened_image = prefix_trans life.opening_outbox life.closing_outbox image g.opened (image_begins life.closing_outbox life.refused_outbox image is)

  image_left : IsPrefix image left
  image_left = (is.beginning.0, ap (λ (rs : List OutboxRecord). rs ++ is.beginning.0) is.holds ∙ (append_assoc life.closing_outbox is.kept is.beginning.0 ∙ ap (λ (rs : List OutboxRecord). life.closing_outbox ++ rs) is.beginning.1))

  image_within : IsPrefix image (outbox_of g.whole)
  image_within = prefix_trans image left (outbox_of g.whole) image_left g.within

  image_end : IsPrefix (entries image) (entries o)
  image_end = prefix_trans (entries image) (entries left) (entries o) (prefix_entries image left image_left) g.begins.made

  image_grows : BeginsHistory (history_of life.opening_outbox) (history_of image)
  image_grows = begins_within life.opening_outbox image g.whole opened_image image_within

  image_order : InOrder (entries image)
  image_order = order_of_first (entries image) g.whole.made (subst (λ (es : List Entry). IsPrefix (entries image) es) (entries-outbox_of g.whole) (prefix_entries image (outbox_of g.whole) image_within)) g.in_order

  image_continues : (s : ℕ) → Continues (sent_by (entries o) s) (sent_by (entries life.opening_outbox) s) (sent_by (entries image) s)
  image_continues s = continues (sent_by (entries life.opening_outbox) s) (sent_by (entries image) s) (sent_by (entries o) s)
      (prefix_sent (entries life.opening_outbox) (entries image) s (prefix_entries life.opening_outbox image opened_image)) (prefix_sent (entries image) (entries o) s image_end)

  -- behind the mark nothing comes
  image_is_end : is_finished image ≡ true → entries image ≡ entries o
  image_is_end marked =
      let here : history_of image ≡ history_of left = (begins_within image left g.whole image_left g.within).alone marked in
      let there : history_of left ≡ history_of o = g.begins.alone (ap (λ (h : History). h.finished) (sym here) ∙ marked) in
      ap (λ (h : History). h.made) (here ∙ there)

  image_done : is_finished image ≡ true → SendersDone (plan_of o) (entries life.opening_outbox) (entries image) life.served.opening_inbox life.served.closing_inbox
  image_done marked = record {
    answered = life.served.closing_inbox;
    opened = g.grown;
    reached = prefix_self life.served.closing_inbox;
    peer_done = inl (λ s ps qs. refl);
    all_sent = λ s. subst (λ (es : List Entry). Completes (sent_by es s) (sent_by (entries life.opening_outbox) s) (sent_by (entries image) s)) (image_is_end marked)
        (completes (sent_by (entries life.opening_outbox) s) (sent_by (entries image) s) (prefix_sent (entries life.opening_outbox) (entries image) s (prefix_entries life.opening_outbox image opened_image)));
  }

pub keeps_outbox : (life : Life) (o : List OutboxRecord) → GoesOn life o → KeepsOutbox (plan_of o) life
keeps_outbox life o g = record {
  outbox_grows = g.opened;
  history_grows = λ image is. image_grows life o g image is;
  in_order = λ image is. image_order life o g image is;
  plans = λ image is s. image_continues life o g image is s;
  finishes = λ image is unmarked marked. image_done life o g image is marked;
}
