-- The records of a history.
use Rattle.std.proofs.Common.{◌≡◌, Bool, true, false, List, [], ◌∷◌, ◌++◌, map, refl, sym, ap, subst, ◌∙◌, append-nil}
use mathlib.Core.List.{IsPrefix}
use Rattle.session_model.specs.Journal.{Entry, OutboxRecord, entry, entries, History, is_finished, history_of, BeginsHistory}
use Rattle.session_model.proofs.Lists.{prefix_equal, prefix_trans, prefix_map, prefix_of_append}
use Rattle.jr_boxes.specs.Outboxes.{mark_of, outbox_of}
use Rattle.two_ends.specs.Stories.{OutboxGoesOn}

-- they have its entries, and its mark
entries_of_records : (es : List Entry) (b : Bool) → entries (map (λ (e : Entry). entry e) es ++ mark_of b) ≡ es
entries_of_records [] true = refl
entries_of_records [] false = refl
entries_of_records (e ∷ es) b = ap (λ (ds : List Entry). e ∷ ds) (entries_of_records es b)

mark_of_records : (es : List Entry) (b : Bool) → is_finished (map (λ (e : Entry). entry e) es ++ mark_of b) ≡ b
mark_of_records [] true = refl
mark_of_records [] false = refl
mark_of_records (e ∷ es) b = mark_of_records es b

pub entries-outbox_of : (h : History) → entries (outbox_of h) ≡ h.made
entries-outbox_of h = entries_of_records h.made h.finished

pub history_of-outbox_of : (h : History) → history_of (outbox_of h) ≡ h
history_of-outbox_of h =
    ap (λ (es : List Entry). record { made = es; finished = is_finished (outbox_of h) }) (entries-outbox_of h) ∙ ap (λ (b : Bool). record { made = h.made; finished = b }) (mark_of_records h.made h.finished)

-- a history that begins another has records from which the other's go on
outbox_begins : (o c : History) → BeginsHistory o c → IsPrefix (outbox_of o) (outbox_of c)
outbox_begins o c b = by_mark o.finished refl
  where
    made : IsPrefix (map (λ (e : Entry). entry e) o.made) (outbox_of c)
    made = prefix_trans (map (λ (e : Entry). entry e) o.made) (map (λ (e : Entry). entry e) c.made) (outbox_of c) (prefix_map (λ (e : Entry). entry e) o.made c.made b.made)
        (prefix_of_append (map (λ (e : Entry). entry e) c.made) (mark_of c.finished))

    by_mark : (m : Bool) → o.finished ≡ m → IsPrefix (outbox_of o) (outbox_of c)
    by_mark true is = prefix_equal (outbox_of o) (outbox_of c) (ap (λ (h : History). outbox_of h) (b.alone is))
    by_mark false is = subst (λ (rs : List OutboxRecord). IsPrefix rs (outbox_of c))
        (sym (ap (λ (m : Bool). map (λ (e : Entry). entry e) o.made ++ mark_of m) is ∙ append-nil (map (λ (e : Entry). entry e) o.made))) made

pub outbox_goes_on : (o c : History) → BeginsHistory o c → OutboxGoesOn (outbox_of o) (outbox_of c)
outbox_goes_on o c b = record {
  begins = outbox_begins o c b;
  history = subst (λ (h : History). BeginsHistory h (history_of (outbox_of c))) (sym (history_of-outbox_of o)) (subst (λ (h : History). BeginsHistory o h) (sym (history_of-outbox_of c)) b);
}
