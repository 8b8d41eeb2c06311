-- A history with one more record, and what the records of a history tell of it.
use Rattle.std.proofs.Common.{◌≡◌, ◌≢◌, ℕ, ◌+◌, Bool, true, false, cond, ◌==◌, List, [], ◌∷◌, ◌++◌, map, length, refl, sym, ap, subst, ◌∙◌, arith, eq-eqb, eqb-true, ne_eqb, length-append}
use Rattle.std.proofs.lemmas.Bool.{false≢true, eqb-false}
use Rattle.std.proofs.lemmas.List.{append-nil}
use Rattle.std.proofs.lemmas.List.Elements.{filter-append}
use Rattle.session_model.specs.Journal.{Entry, History, InOrder, entry, entries_of, counts_from}
use Rattle.session_model.proofs.Lists.{counts_from-add}
use Rattle.jr_record.specs.declared.record.Record.{Record}
use Rattle.jr_record.specs.declared.record.Record.TheVariants as kinds
use Rattle.jr_boxes.specs.Outboxes.{record_of, mark_of, records_of_history, with_entry, with_mark}

-- the records of some entries
abbrev pub records_of : List Entry → List Record
records_of es = map (λ (e : Entry). record_of (entry e)) es

-- those of a history, without its mark and with it
unmarked_at : (es : List Entry) (b : Bool) → b ≡ false → map record_of (map (λ (e : Entry). entry e) es ++ mark_of b) ≡ records_of es
unmarked_at es true is = absurd (false≢true (sym is))
unmarked_at [] false is = refl
unmarked_at (e ∷ es) false is = ap (λ (rs : List Record). record_of (entry e) ∷ rs) (unmarked_at es false is)

marked_at : (es : List Entry) (b : Bool) → b ≡ true → map record_of (map (λ (e : Entry). entry e) es ++ mark_of b) ≡ records_of es ++ kinds.Finish ∷ []
marked_at es false is = absurd (false≢true is)
marked_at [] true is = refl
marked_at (e ∷ es) true is = ap (λ (rs : List Record). record_of (entry e) ∷ rs) (marked_at es true is)

pub unmarked : (h : History) → h.finished ≡ false → records_of_history h ≡ records_of h.made
unmarked h open_is = unmarked_at h.made h.finished open_is

pub marked : (h : History) → h.finished ≡ true → records_of_history h ≡ records_of h.made ++ kinds.Finish ∷ []
marked h is = marked_at h.made h.finished is

records_of-push : (es : List Entry) (e : Entry) → records_of (es ++ e ∷ []) ≡ records_of es ++ record_of (entry e) ∷ []
records_of-push [] e = refl
records_of-push (x ∷ es) e = ap (λ (rs : List Record). record_of (entry x) ∷ rs) (records_of-push es e)

-- one more record
pub entry_joins : (h : History) (e : Entry) → h.finished ≡ false → records_of_history (with_entry h e) ≡ records_of_history h ++ record_of (entry e) ∷ []
entry_joins h e open_is =
    unmarked (with_entry h e) open_is ∙ records_of-push h.made e ∙ ap (λ (rs : List Record). rs ++ record_of (entry e) ∷ []) (sym (unmarked h open_is))

pub mark_joins : (h : History) → h.finished ≡ false → records_of_history (with_mark h) ≡ records_of_history h ++ kinds.Finish ∷ []
mark_joins h open_is = marked (with_mark h) refl ∙ ap (λ (rs : List Record). rs ++ kinds.Finish ∷ []) (sym (unmarked h open_is))

-- the entries of a sender, with one more of it or of another
pub entries_of-same : (es : List Entry) (e : Entry) → entries_of (es ++ e ∷ []) e.sender ≡ entries_of es e.sender ++ e ∷ []
entries_of-same es e =
    filter-append (λ (d : Entry). d.sender == e.sender) es (e ∷ [])
    ∙ ap (λ (b : Bool). entries_of es e.sender ++ cond b (e ∷ []) []) (eq-eqb e.sender e.sender refl)

pub entries_of-other : (es : List Entry) (e : Entry) (s : ℕ) → e.sender ≢ s → entries_of (es ++ e ∷ []) s ≡ entries_of es s
entries_of-other es e s other =
    filter-append (λ (d : Entry). d.sender == s) es (e ∷ [])
    ∙ ap (λ (b : Bool). entries_of es s ++ cond b (e ∷ []) []) (ne_eqb e.sender s other)
    ∙ append-nil (entries_of es s)

own_numbers-push : (es : List Entry) (e : Entry) → map (λ (e : Entry). e.own_number) (es ++ e ∷ []) ≡ map (λ (e : Entry). e.own_number) es ++ e.own_number ∷ []
own_numbers-push [] e = refl
own_numbers-push (x ∷ es) e = ap (λ (ns : List ℕ). x.own_number ∷ ns) (own_numbers-push es e)

counts-push : (k n : ℕ) → counts_from n (k + 1) ≡ counts_from n k ++ (n + k) ∷ []
counts-push k n = counts_from-add n k 1

one_more : {k : ℕ} (n : ℕ) → k ≡ n + 1 → k ≡ 1 + n
one_more n is = omega arith

-- the entries stay in order with the next one of its sender
pub order_goes_on : (es : List Entry) (e : Entry) → InOrder es → e.own_number ≡ length (entries_of es e.sender) + 1 → InOrder (es ++ e ∷ [])
order_goes_on es e in_order next s = by_test (s == e.sender) refl
  where
    its : map (λ (d : Entry). d.own_number) (entries_of (es ++ e ∷ []) e.sender) ≡ counts_from 1 (length (entries_of (es ++ e ∷ []) e.sender))
    its =
        ap (λ (ds : List Entry). map (λ (d : Entry). d.own_number) ds) (entries_of-same es e)
        ∙ own_numbers-push (entries_of es e.sender) e
        ∙ ap (λ (ns : List ℕ). ns ++ e.own_number ∷ []) (in_order e.sender)
        ∙ ap (λ (k : ℕ). counts_from 1 (length (entries_of es e.sender)) ++ k ∷ []) (one_more (length (entries_of es e.sender)) next)
        ∙ sym (counts-push (length (entries_of es e.sender)) 1)
        ∙ ap (λ (k : ℕ). counts_from 1 k) (sym (length-append (entries_of es e.sender) (e ∷ [])))
        ∙ ap (λ (ds : List Entry). counts_from 1 (length ds)) (sym (entries_of-same es e))

    by_test : (b : Bool) → (s == e.sender) ≡ b → map (λ (d : Entry). d.own_number) (entries_of (es ++ e ∷ []) s) ≡ counts_from 1 (length (entries_of (es ++ e ∷ []) s))
    by_test true is = subst (λ (t : ℕ). map (λ (d : Entry). d.own_number) (entries_of (es ++ e ∷ []) t) ≡ counts_from 1 (length (entries_of (es ++ e ∷ []) t))) (sym (eqb-true s e.sender is)) its
    by_test false is =
        let same = entries_of-other es e s (λ f. eqb-false s e.sender is (sym f)) in
        ap (λ (ds : List Entry). map (λ (d : Entry). d.own_number) ds) same ∙ in_order s ∙ ap (λ (ds : List Entry). counts_from 1 (length ds)) (sym same)

-- and the last number of entries in order is one more than those of its sender before it
last_of : (es : List Entry) (e : Entry) (n : ℕ) → map (λ (d : Entry). d.own_number) (es ++ e ∷ []) ≡ counts_from n (length (es ++ e ∷ [])) → e.own_number ≡ n + length es
last_of [] e n is = let same : e.own_number ≡ n = cc in omega arith
last_of (x ∷ es) e n is =
    let rest : map (λ (d : Entry). d.own_number) (es ++ e ∷ []) ≡ counts_from (n + 1) (length (es ++ e ∷ [])) = cc in
    omega (arith, last_of es e (n + 1) rest)

pub last_number : (es : List Entry) (e : Entry) → InOrder (es ++ e ∷ []) → e.own_number ≡ length (entries_of es e.sender) + 1
last_number es e in_order =
    let own = entries_of es e.sender in
    let there : map (λ (d : Entry). d.own_number) (own ++ e ∷ []) ≡ counts_from 1 (length (own ++ e ∷ [])) =
    subst (λ (ds : List Entry). map (λ (d : Entry). d.own_number) ds ≡ counts_from 1 (length ds)) (entries_of-same es e) (in_order e.sender) in
    omega (arith, last_of own e 1 there)

-- entries are told by their records
same_entry : (d e : Entry) → d.sender ≡ e.sender → d.own_number ≡ e.own_number → d.payload ≡ e.payload → d ≡ e
same_entry d e senders numbers payloads =
    ap (λ (s : ℕ). record { sender = s; own_number = d.own_number; payload = d.payload }) senders
    ∙ ap (λ (k : ℕ). record { sender = e.sender; own_number = k; payload = d.payload }) numbers
    ∙ ap (λ (p : List ℕ). record { sender = e.sender; own_number = e.own_number; payload = p }) payloads

pub same_entries : (ds es : List Entry) → records_of ds ≡ records_of es → ds ≡ es
same_entries [] [] is = refl
same_entries [] (e ∷ es) is = absurd (cc)
same_entries (d ∷ ds) [] is = absurd (cc)
same_entries (d ∷ ds) (e ∷ es) is =
    let senders : d.sender ≡ e.sender = cc in
    let numbers : d.own_number ≡ e.own_number = cc in
    let payloads : d.payload ≡ e.payload = cc in
    let tails : records_of ds ≡ records_of es = cc in
    let heads = same_entry d e senders numbers payloads in
    let rest = same_entries ds es tails in
    cc (heads, rest)

-- no entry is a Finish
pub no_finish : (es : List Entry) (rs : List Record) → rs ++ kinds.Finish ∷ [] ≡ records_of es → ⊥
no_finish [] [] is = cc
no_finish [] (r ∷ rs) is = cc
no_finish (e ∷ es) [] is = cc
no_finish (e ∷ es) (r ∷ rs) is = let tails : rs ++ kinds.Finish ∷ [] ≡ records_of es = cc in no_finish es rs tails

-- records that end with one more are those of entries that end with one more
pub record EndsWith (es : List Entry) (rs : List Record) (r : Record) : Type 0 where
  pub before : List Entry
  pub last : Entry
  pub whole : es ≡ before ++ last ∷ []
  pub spelled : rs ≡ records_of before
  pub is : r ≡ record_of (entry last)

pub ends_with : (es : List Entry) (rs : List Record) (r : Record) → rs ++ r ∷ [] ≡ records_of es → EndsWith es rs r
ends_with [] [] r is = absurd (cc)
ends_with [] (x ∷ rs) r is = absurd (cc)
ends_with (e ∷ []) [] r is = record { before = []; last = e; whole = refl; spelled = refl; is = cc }
ends_with (e ∷ d ∷ es) [] r is = absurd (cc)
ends_with (e ∷ es) (x ∷ rs) r is =
    let tails : rs ++ r ∷ [] ≡ records_of es = cc in
    let head : x ≡ record_of (entry e) = cc in
    let rest = ends_with es rs r tails in
    record {
      before = e ∷ rest.before;
      last = rest.last;
      whole = ap (λ (ds : List Entry). e ∷ ds) rest.whole;
      spelled = ap (λ (y : Record). y ∷ rs) head ∙ ap (λ (ys : List Record). record_of (entry e) ∷ ys) rest.spelled;
      is = rest.is;
    }

-- one more at the end of equal lists
pub same_end : (xs ys : List Record) (x y : Record) → xs ++ x ∷ [] ≡ ys ++ y ∷ [] → (xs ≡ ys) × (x ≡ y)
same_end [] [] x y is = (refl, cc)
same_end [] (b ∷ []) x y is = absurd (cc)
same_end [] (b ∷ c ∷ ys) x y is = absurd (cc)
same_end (a ∷ []) [] x y is = absurd (cc)
same_end (a ∷ c ∷ xs) [] x y is = absurd (cc)
same_end (a ∷ xs) (b ∷ ys) x y is =
    let tails : xs ++ x ∷ [] ≡ ys ++ y ∷ [] = cc in
    let head : a ≡ b = cc in
    let rest = same_end xs ys x y tails in
    (ap (λ (c : Record). c ∷ xs) head ∙ ap (λ (zs : List Record). b ∷ zs) rest.0, rest.1)
