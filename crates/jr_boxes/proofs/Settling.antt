-- The lists of an inbox with one more record.
use Rattle.std.proofs.Common.{◌≡◌, ◌⊎◌, ℕ, suc, ◌+◌, false, List, [], ◌∷◌, ◌++◌, length, None, refl, sym, ap, subst, ◌∙◌, arith, append_assoc, add-zero, inl, inr}
use Rattle.std.proofs.lemmas.List.{map-append}
use Rattle.session_model.specs.Inbox.{Numbered, Range, InboxRecord, apply, skip, negotiated, peer_finished, has_peer_finished}
use Rattle.fixp_msgs.specs.declared.flow.Flow.{Flow}
use Rattle.jr_record.specs.declared.record.Record.{Record}
use Rattle.jr_boxes.specs.Inboxes.{record_of, records_of_inbox, has_negotiated, peer_last_in, Fits, IsInbox}
use Rattle.jr_boxes.specs.Notes.{places_from}

-- a part of a list with one more element ends before it, or is the whole list
split_end : {A : Type 0} (i before after : List A) (r x : A) → i ++ r ∷ [] ≡ before ++ x ∷ after → ((before ≡ i) × (x ≡ r)) ⊎ ((rest : List A) × (i ≡ before ++ x ∷ rest))
split_end [] [] after r x is = inl (refl, cc)
split_end [] (b ∷ []) after r x is = absurd (cc)
split_end [] (b ∷ c ∷ before) after r x is = absurd (cc)
split_end (a ∷ i) [] after r x is = let head : a ≡ x = cc in inr (i, ap (λ y. y ∷ i) head)
split_end {A} (a ∷ i) (b ∷ before) after r x is =
    let head : a ≡ b = cc in
    let tails : i ++ r ∷ [] ≡ before ++ x ∷ after = cc in
    by_rest head (split_end i before after r x tails)
  where
    by_rest : a ≡ b → ((before ≡ i) × (x ≡ r)) ⊎ ((rest : List A) × (i ≡ before ++ x ∷ rest)) → ((b ∷ before ≡ a ∷ i) × (x ≡ r)) ⊎ ((rest : List A) × (a ∷ i ≡ b ∷ before ++ x ∷ rest))
    by_rest head (inl both) = inl (let same = both.0 in cc (head, same), both.1)
    by_rest head (inr more) = inr (more.0, let same = more.1 in cc (head, same))

-- an inbox goes on with a record that fits
pub inbox_push : (flow : Flow) (records : List Record) (i : List InboxRecord) (r : InboxRecord) → IsInbox flow records i → Fits flow i r → IsInbox flow (records ++ record_of r ∷ []) (i ++ r ∷ [])
inbox_push flow records i r is fits = record {
  spelled = ap (λ (rs : List Record). rs ++ record_of r ∷ []) is.spelled ∙ sym (map-append record_of i (r ∷ []));
  fits = λ before after x split. by_split before x (split_end i before after r x split);
}
  where
    by_split : (before : List InboxRecord) (x : InboxRecord) → ((before ≡ i) × (x ≡ r)) ⊎ ((rest : List InboxRecord) × (i ≡ before ++ x ∷ rest)) → Fits flow before x
    by_split before x (inl both) = subst (λ (y : InboxRecord). Fits flow before y) (sym both.1) (subst (λ (b : List InboxRecord). Fits flow b r) (sym both.0) fits)
    by_split before x (inr more) = is.fits before more.0 x more.1

-- records are told by those of a journal
same_message : (m n : Numbered) → m.number ≡ n.number → m.payload ≡ n.payload → m ≡ n
same_message m n numbers payloads =
    ap (λ (k : ℕ). record { number = k; payload = m.payload }) numbers ∙ ap (λ (p : List ℕ). record { number = n.number; payload = p }) payloads

same_range : (r s : Range) → r.first ≡ s.first → r.count ≡ s.count → r ≡ s
same_range r s firsts counts =
    ap (λ (k : ℕ). record { first = k; count = r.count }) firsts ∙ ap (λ (k : ℕ). record { first = s.first; count = k }) counts

same_record : (x y : InboxRecord) → record_of x ≡ record_of y → x ≡ y
same_record (apply m) (apply n) is = ap apply (same_message m n (cc) (cc))
same_record (apply m) (skip s) is = absurd (cc)
same_record (apply m) negotiated is = absurd (cc)
same_record (apply m) (peer_finished k) is = absurd (cc)
same_record (skip r) (apply n) is = absurd (cc)
same_record (skip r) (skip s) is = ap skip (same_range r s (cc) (cc))
same_record (skip r) negotiated is = absurd (cc)
same_record (skip r) (peer_finished k) is = absurd (cc)
same_record negotiated (apply n) is = absurd (cc)
same_record negotiated (skip s) is = absurd (cc)
same_record negotiated negotiated is = refl
same_record negotiated (peer_finished k) is = absurd (cc)
same_record (peer_finished l) (apply n) is = absurd (cc)
same_record (peer_finished l) (skip s) is = absurd (cc)
same_record (peer_finished l) negotiated is = absurd (cc)
same_record (peer_finished l) (peer_finished k) is = ap peer_finished (cc)

pub same_records : (i k : List InboxRecord) → records_of_inbox i ≡ records_of_inbox k → i ≡ k
same_records [] [] is = refl
same_records [] (y ∷ k) is = absurd (cc)
same_records (x ∷ i) [] is = absurd (cc)
same_records (x ∷ i) (y ∷ k) is =
    let heads : record_of x ≡ record_of y = cc in
    let tails : records_of_inbox i ≡ records_of_inbox k = cc in
    let head = same_record x y heads in
    let rest = same_records i k tails in
    cc (head, rest)

-- an inbox that ends with one more record
pub record EndsWith (flow : Flow) (records : List Record) (r : Record) : Type 0 where
  pub before : List InboxRecord
  pub last : InboxRecord
  pub is : r ≡ record_of last
  pub inbox : IsInbox flow records before
  pub fits : Fits flow before last

record Ends (i : List InboxRecord) (records : List Record) (r : Record) : Type 0 where
  pub before : List InboxRecord
  pub last : InboxRecord
  pub whole : i ≡ before ++ last ∷ []
  pub spelled : records ≡ records_of_inbox before
  pub is : r ≡ record_of last

ends_with : (i : List InboxRecord) (records : List Record) (r : Record) → records ++ r ∷ [] ≡ records_of_inbox i → Ends i records r
ends_with [] [] r is = absurd (cc)
ends_with [] (x ∷ records) r is = absurd (cc)
ends_with (y ∷ []) [] r is = record { before = []; last = y; whole = refl; spelled = refl; is = cc }
ends_with (y ∷ z ∷ i) [] r is = absurd (cc)
ends_with (y ∷ i) (x ∷ records) r is =
    let tails : records ++ r ∷ [] ≡ records_of_inbox i = cc in
    let head : x ≡ record_of y = cc in
    let rest = ends_with i records r tails in
    record {
      before = y ∷ rest.before;
      last = rest.last;
      whole = ap (λ (ks : List InboxRecord). y ∷ ks) rest.whole;
      spelled = ap (λ (z : Record). z ∷ records) head ∙ ap (λ (zs : List Record). record_of y ∷ zs) rest.spelled;
      is = rest.is;
    }

pub inbox_ends : (flow : Flow) (records : List Record) (r : Record) (i : List InboxRecord) → IsInbox flow (records ++ r ∷ []) i → EndsWith flow records r
inbox_ends flow records r i is =
    let w = ends_with i records r is.spelled in
    record {
      before = w.before;
      last = w.last;
      is = w.is;
      inbox = record {
        spelled = w.spelled;
        fits = λ before after x split. is.fits before (after ++ w.last ∷ []) x
            (w.whole ∙ ap (λ (k : List InboxRecord). k ++ w.last ∷ []) split ∙ append_assoc before (x ∷ after) (w.last ∷ []));
      };
      fits = is.fits w.before [] w.last w.whole;
    }

-- what is noted of two parts
pub has_negotiated-push : (i : List InboxRecord) (r : InboxRecord) → has_negotiated i ≡ false → has_negotiated (i ++ r ∷ []) ≡ has_negotiated (r ∷ [])
has_negotiated-push [] r is = refl
has_negotiated-push (apply _ ∷ i) r is = has_negotiated-push i r is
has_negotiated-push (skip _ ∷ i) r is = has_negotiated-push i r is
has_negotiated-push (negotiated ∷ i) r is = absurd (cc)
has_negotiated-push (peer_finished _ ∷ i) r is = has_negotiated-push i r is

-- of a record that is not of the kind
pub has_negotiated-other : (i : List InboxRecord) (r : InboxRecord) → has_negotiated (r ∷ []) ≡ false → has_negotiated (i ++ r ∷ []) ≡ has_negotiated i
has_negotiated-other [] r other = other
has_negotiated-other (apply _ ∷ i) r other = has_negotiated-other i r other
has_negotiated-other (skip _ ∷ i) r other = has_negotiated-other i r other
has_negotiated-other (negotiated ∷ i) r other = refl
has_negotiated-other (peer_finished _ ∷ i) r other = has_negotiated-other i r other

pub peer_last_in-push : (i : List InboxRecord) (r : InboxRecord) → peer_last_in i ≡ None → peer_last_in (i ++ r ∷ []) ≡ peer_last_in (r ∷ [])
peer_last_in-push [] r is = refl
peer_last_in-push (apply _ ∷ i) r is = peer_last_in-push i r is
peer_last_in-push (skip _ ∷ i) r is = peer_last_in-push i r is
peer_last_in-push (negotiated ∷ i) r is = peer_last_in-push i r is
peer_last_in-push (peer_finished _ ∷ i) r is = absurd (cc)

pub peer_last_in-other : (i : List InboxRecord) (r : InboxRecord) → peer_last_in (r ∷ []) ≡ None → peer_last_in (i ++ r ∷ []) ≡ peer_last_in i
peer_last_in-other [] r other = other
peer_last_in-other (apply _ ∷ i) r other = peer_last_in-other i r other
peer_last_in-other (skip _ ∷ i) r other = peer_last_in-other i r other
peer_last_in-other (negotiated ∷ i) r other = peer_last_in-other i r other
peer_last_in-other (peer_finished _ ∷ i) r other = refl

pub finished_once : (i : List InboxRecord) → peer_last_in i ≡ None → has_peer_finished i ≡ false
finished_once [] is = refl
finished_once (apply _ ∷ i) is = finished_once i is
finished_once (skip _ ∷ i) is = finished_once i is
finished_once (negotiated ∷ i) is = finished_once i is
finished_once (peer_finished _ ∷ i) is = absurd (cc)

pub unfinished : (i : List InboxRecord) → has_peer_finished i ≡ false → peer_last_in i ≡ None
unfinished [] is = refl
unfinished (apply _ ∷ i) is = unfinished i is
unfinished (skip _ ∷ i) is = unfinished i is
unfinished (negotiated ∷ i) is = unfinished i is
unfinished (peer_finished _ ∷ i) is = absurd (cc)

one_on : (n k : ℕ) → n + 1 + k ≡ n + suc k
one_on n k = omega arith

pub places_from-push : (n : ℕ) (i : List InboxRecord) (r : InboxRecord) → places_from n (i ++ r ∷ []) ≡ places_from n i ++ places_from (n + length i) (r ∷ [])
places_from-push n [] r = ap (λ (k : ℕ). places_from k (r ∷ [])) (sym (add-zero n))
places_from-push n (apply _ ∷ i) r = ap (λ (ks : List ℕ). n ∷ ks) (places_from-push (n + 1) i r ∙ ap (λ (k : ℕ). places_from (n + 1) i ++ places_from k (r ∷ [])) (one_on n (length i)))
places_from-push n (skip _ ∷ i) r = places_from-push (n + 1) i r ∙ ap (λ (k : ℕ). places_from (n + 1) i ++ places_from k (r ∷ [])) (one_on n (length i))
places_from-push n (negotiated ∷ i) r = places_from-push (n + 1) i r ∙ ap (λ (k : ℕ). places_from (n + 1) i ++ places_from k (r ∷ [])) (one_on n (length i))
places_from-push n (peer_finished _ ∷ i) r = places_from-push (n + 1) i r ∙ ap (λ (k : ℕ). places_from (n + 1) i ++ places_from k (r ∷ [])) (one_on n (length i))
