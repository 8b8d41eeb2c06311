-- The first records of a box are those of a box.
use Rattle.std.proofs.Common.{◌≡◌, ◌⊎◌, ℕ, suc, ◌+◌, ◌≤◌, ◌<◌, Bool, true, false, ◌==◌, List, [], ◌∷◌, ◌++◌, map, length, take, drop, inl, inr, refl, sym, ap, subst, ◌∙◌, append_assoc, append-nil, take-append-drop, arith, length-append}
use Rattle.std.specs.List.{AllByRecursion}
use Rattle.std.proofs.Math.Seq.{take-append_seam}
use Rattle.std.proofs.lemmas.Bool.{cases_lt, cases_Bool}
use Rattle.std.proofs.lemmas.List.{map-append, take-map, take-append-le, take_all, length-map}
use Rattle.std.proofs.lemmas.List.Elements.{filter-append}
use Rattle.session_model.specs.Journal.{Entry, History, InOrder, entry, entries_of, counts_from}
use Rattle.session_model.specs.Inbox.{InboxRecord}
use Rattle.session_model.proofs.Lists.{all_first, counts_from-add, length-counts_from}
use Rattle.fixp_msgs.specs.declared.flow.Flow.{Flow}
use Rattle.fixp_msgs.specs.Payload.{IsApplication}
use Rattle.jr_record.specs.declared.record.Record.{Record}
use Rattle.jr_record.specs.Records.{IsSender}
use Rattle.jr_boxes.specs.Outboxes.{IsOutbox, record_of, mark_of, outbox_of, records_of_history}
use Rattle.jr_boxes.specs.Inboxes.{IsInbox, Fits, records_of_inbox}

-- the first entries are in order where all are
abbrev own : List Entry → List ℕ
own es = map (λ (e : Entry). e.own_number) es

in_order_first : (xs ys : List Entry) → InOrder (xs ++ ys) → InOrder xs
in_order_first xs ys order s =
    let a : List Entry = entries_of xs s in
    let b : List Entry = entries_of ys s in
    let split : entries_of (xs ++ ys) s ≡ a ++ b = filter-append (λ (d : Entry). d.sender == s) xs ys in
    let whole : own a ++ own b ≡ counts_from 1 (length a) ++ counts_from (1 + length a) (length b) =
    sym (map-append (λ (e : Entry). e.own_number) a b) ∙ ap own (sym split) ∙ order s ∙ ap (λ (es : List Entry). counts_from 1 (length es)) split
    ∙ ap (counts_from 1) (length-append a b) ∙ counts_from-add 1 (length a) (length b) in
    let long : length (own a) ≡ length (counts_from 1 (length a)) = length-map a (λ (e : Entry). e.own_number) ∙ sym (length-counts_from 1 (length a)) in
    sym (take-append_seam (own a) (own b))
    ∙ ap (take (length (own a))) whole
    ∙ ap (λ (n : ℕ). take n (counts_from 1 (length a) ++ counts_from (1 + length a) (length b))) long
    ∙ take-append_seam (counts_from 1 (length a)) (counts_from (1 + length a) (length b))

-- so many first entries, without the mark
abbrev first_entries : History → ℕ → History
first_entries h n = record { made = take n h.made; finished = false }

spelled_first : (h : History) (n : ℕ) → n ≤ length h.made → take n (records_of_history h) ≡ records_of_history (first_entries h n)
spelled_first h n within =
    let entries : List Entry → List _ = map (λ (e : Entry). entry e) in
    take-map record_of n (outbox_of h)
    ∙ ap (map record_of) (take-append-le n (entries h.made) (mark_of h.finished) (subst (λ (k : ℕ). n ≤ k) (sym (length-map h.made (λ (e : Entry). entry e))) within)
    ∙ take-map (λ (e : Entry). entry e) n h.made
    ∙ sym (append-nil (entries (take n h.made))))

first_of_outbox : (records : List Record) (h : History) (n : ℕ) → IsOutbox records h → n ≤ length h.made → IsOutbox (take n records) (first_entries h n)
first_of_outbox records h n is within =
    let whole : h.made ≡ take n h.made ++ drop n h.made = sym (take-append-drop n h.made) in
    record {
      spelled = ap (take n) is.spelled ∙ spelled_first h n within;
      senders = all_first (λ (e : Entry). IsSender e.sender) (take n h.made) (drop n h.made) (subst (AllByRecursion (λ (e : Entry). IsSender e.sender)) whole is.senders);
      payloads = all_first (λ (e : Entry). IsApplication e.payload) (take n h.made) (drop n h.made) (subst (AllByRecursion (λ (e : Entry). IsApplication e.payload)) whole is.payloads);
      in_order = in_order_first (take n h.made) (drop n h.made) (subst InOrder whole is.in_order);
    }

-- more than all entries is all, with the mark where it stands
all_of_outbox : (records : List Record) (h : History) (n : ℕ) → IsOutbox records h → length h.made < n → take n records ≡ records
all_of_outbox records h n is past = take_all n records (omega (arith, ap length is.spelled, long, marks h.finished))
  where
    long : length (records_of_history h) ≡ length h.made + length (mark_of h.finished)
    long =
        length-map (outbox_of h) record_of
        ∙ length-append (map (λ (e : Entry). entry e) h.made) (mark_of h.finished)
        ∙ ap (λ (k : ℕ). k + length (mark_of h.finished)) (length-map h.made (λ (e : Entry). entry e))

    marks : (b : Bool) → length (mark_of b) ≤ 1
    marks true = omega arith
    marks false = omega arith

pub outbox_first : (records : List Record) (h : History) (n : ℕ) → IsOutbox records h → (k : History) × IsOutbox (take n records) k
outbox_first records h n is = elim (cases_lt (length h.made) n) as (λ _. (k : History) × IsOutbox (take n records) k) [
  | inl past ↦ (h, subst (λ (rs : List Record). IsOutbox rs h) (sym (all_of_outbox records h n is past)) is)
  | inr within ↦ (first_entries h n, first_of_outbox records h n is within)
]

pub inbox_first : (flow : Flow) (records : List Record) (i : List InboxRecord) (n : ℕ) → IsInbox flow records i → (k : List InboxRecord) × IsInbox flow (take n records) k
inbox_first flow records i n is = (
  take n i,
  record {
    spelled = ap (take n) is.spelled ∙ take-map _ n i;
    fits = λ before after r split.
        is.fits before (after ++ drop n i) r
        (sym (take-append-drop n i) ∙ ap (λ (l : List InboxRecord). l ++ drop n i) split ∙ append_assoc before (r ∷ after) (drop n i));
  },
)
