-- What was noted of the records of an inbox, and which record may follow.
use Rattle.std.proofs.Common.{◌≡◌, ℕ, zero, suc, ◌+◌, ◌-◌, ◌≤◌, ◌<◌, max, false, List, [], ◌∷◌, ◌++◌, length, slice_get, slice_index, Some, None, refl, sym, ap, subst, ◌∙◌, arith, append-nil, zero-add}
use Rattle.session_model.specs.Inbox.{Numbered, Range, InboxRecord, apply, skip, negotiated, peer_finished, next_number, past_greatest, settled, applied}
use Rattle.session_model.specs.Journal.{counts_from}
use Rattle.session_model.proofs.Inboxes.{next_number-append}
use Rattle.session_model.proofs.Lists.{past_greatest-counts_from, past_greatest-pos}
use Rattle.fixp_msgs.specs.declared.flow.Flow.{Flow}
use Rattle.jr_places.specs.Numbers.{numbers_of}
use Rattle.jr_record.specs.declared.record.Record.{Record}
use Rattle.jr_record.specs.declared.record.Record.TheVariants as kinds
use Rattle.jr_boxes.specs.declared.notes.Notes.{Notes}
use Rattle.jr_boxes.specs.Inboxes.{record_of, records_of_inbox, Fits, IsInbox}
use Rattle.jr_boxes.specs.Notes.{Notices, Noted, MayFollow, HasNoted, IsWithin, places_from}
use Rattle.jr_boxes.proofs.Settling.{inbox_push, inbox_ends, same_records, has_negotiated-push, has_negotiated-other, peer_last_in-push, peer_last_in-other, finished_once, unfinished, places_from-push}

-- the number that is next behind one more record
next_behind_apply : (i : List InboxRecord) (m : Numbered) → m.number ≡ next_number i → next_number (i ++ apply m ∷ []) ≡ m.number + 1
next_behind_apply i m is = next_number-append i (apply m ∷ []) ∙ omega arith

next_behind_skip : (i : List InboxRecord) (r : Range) → 1 ≤ next_number i → r.first ≡ next_number i → next_number (i ++ skip r ∷ []) ≡ r.first + r.count
next_behind_skip i r least is =
    next_number-append i (skip r ∷ [])
    ∙ ap (λ (k : ℕ). max k (past_greatest (counts_from r.first r.count ++ []))) (sym is)
    ∙ ap (λ (ns : List ℕ). max r.first (past_greatest ns)) (append-nil (counts_from r.first r.count))
    ∙ past_greatest-counts_from r.first r.count (subst (λ (k : ℕ). 1 ≤ k) (sym is) least)

pub next_number-pos : (i : List InboxRecord) → 1 ≤ next_number i
next_number-pos i = past_greatest-pos (settled i)

-- control records leave the next number
next_behind_negotiated : (i : List InboxRecord) → next_number (i ++ negotiated ∷ []) ≡ next_number i
next_behind_negotiated i = omega (arith, next_number-append i (negotiated ∷ []), next_number-pos i)

next_behind_finished : (i : List InboxRecord) (last : ℕ) → next_number (i ++ peer_finished last ∷ []) ≡ next_number i
next_behind_finished i last = omega (arith, next_number-append i (peer_finished last ∷ []), next_number-pos i)

-- the places of one more record
place_applied : (i : List InboxRecord) (m : Numbered) → places_from 0 (i ++ apply m ∷ []) ≡ places_from 0 i ++ length i ∷ []
place_applied i m = places_from-push 0 i (apply m) ∙ ap (λ (k : ℕ). places_from 0 i ++ k ∷ []) (zero-add (length i))

no_place : (i : List InboxRecord) (r : InboxRecord) → places_from (0 + length i) (r ∷ []) ≡ [] → places_from 0 (i ++ r ∷ []) ≡ places_from 0 i
no_place i r none = places_from-push 0 i r ∙ ap (λ (ks : List ℕ). places_from 0 i ++ ks) none ∙ append-nil (places_from 0 i)

-- the notes of one more record
pub notices_apply : (old new : Notes) (i : List InboxRecord) (m : Numbered) → m.number ≡ old.next → HasNoted old new (length i) (kinds.Apply m.number m.payload) → Notices old i → Notices new (i ++ apply m ∷ [])
notices_apply old new i m is noted n = record {
  next = noted.next_is ∙ sym (next_behind_apply i m (is ∙ n.next));
  negotiated = noted.negotiated_is ∙ n.negotiated ∙ sym (has_negotiated-other i (apply m) refl);
  peer_last = noted.peer_last_is ∙ n.peer_last ∙ sym (peer_last_in-other i (apply m) refl);
  places = noted.places_are ∙ ap (λ (ks : List ℕ). ks ++ length i ∷ []) n.places ∙ sym (place_applied i m);
}

pub notices_skip : (old new : Notes) (at : ℕ) (i : List InboxRecord) (r : Range) → r.first ≡ old.next → HasNoted old new at (kinds.Skip r.first r.count) → Notices old i → Notices new (i ++ skip r ∷ [])
notices_skip old new at i r is noted n = record {
  next = noted.next_is ∙ sym (next_behind_skip i r (next_number-pos i) (is ∙ n.next));
  negotiated = noted.negotiated_is ∙ n.negotiated ∙ sym (has_negotiated-other i (skip r) refl);
  peer_last = noted.peer_last_is ∙ n.peer_last ∙ sym (peer_last_in-other i (skip r) refl);
  places = noted.places_are ∙ n.places ∙ sym (no_place i (skip r) refl);
}

pub notices_negotiated : (old new : Notes) (at : ℕ) (i : List InboxRecord) → old.negotiated ≡ false → HasNoted old new at kinds.Negotiated → Notices old i → Notices new (i ++ negotiated ∷ [])
notices_negotiated old new at i is noted n = record {
  next = noted.next_is ∙ n.next ∙ sym (next_behind_negotiated i);
  negotiated = noted.negotiated_is ∙ sym (has_negotiated-push i negotiated (sym n.negotiated ∙ is));
  peer_last = noted.peer_last_is ∙ n.peer_last ∙ sym (peer_last_in-other i negotiated refl);
  places = noted.places_are ∙ n.places ∙ sym (no_place i negotiated refl);
}

pub notices_finished : (old new : Notes) (at : ℕ) (i : List InboxRecord) (last : ℕ) → old.peer_last ≡ None → HasNoted old new at (kinds.PeerFinished last) → Notices old i → Notices new (i ++ peer_finished last ∷ [])
notices_finished old new at i last is noted n = record {
  next = noted.next_is ∙ n.next ∙ sym (next_behind_finished i last);
  negotiated = noted.negotiated_is ∙ n.negotiated ∙ sym (has_negotiated-other i (peer_finished last) refl);
  peer_last = noted.peer_last_is ∙ sym (peer_last_in-push i (peer_finished last) (sym n.peer_last ∙ is));
  places = noted.places_are ∙ n.places ∙ sym (no_place i (peer_finished last) refl);
}

-- of any record of the model
pub notices_more : (flow : Flow) (old new : Notes) (at : ℕ) (i : List InboxRecord) (r : InboxRecord) → at ≡ length i → MayFollow flow old (record_of r) → HasNoted old new at (record_of r) → Notices old i
    → Notices new (i ++ r ∷ [])
notices_more flow old new at i (apply m) here may noted n =
    notices_apply old new i m may.0 (subst (λ (k : ℕ). HasNoted old new k (kinds.Apply m.number m.payload)) here noted) n
notices_more flow old new at i (skip r) here may noted n = notices_skip old new at i r may.1 noted n
notices_more flow old new at i negotiated here may noted n = notices_negotiated old new at i may noted n
notices_more flow old new at i (peer_finished last) here may noted n = notices_finished old new at i last may noted n

-- a record that may follow fits those that were noted, and the other way round
pub fits_behind : (flow : Flow) (n : Notes) (i : List InboxRecord) (r : InboxRecord) → Notices n i → MayFollow flow n (record_of r) → Fits flow i r
fits_behind flow n i (apply m) is may = (may.0 ∙ is.next, may.1)
fits_behind flow n i (skip r) is may = (may.0, may.1 ∙ is.next, may.2, may.3)
fits_behind flow n i negotiated is may = sym is.negotiated ∙ may
fits_behind flow n i (peer_finished last) is may = finished_once i (sym is.peer_last ∙ may)

fitting : (flow : Flow) (n : Notes) (i : List InboxRecord) (r : InboxRecord) → Notices n i → Fits flow i r → MayFollow flow n (record_of r)
fitting flow n i (apply m) is fits = (fits.0 ∙ sym is.next, fits.1)
fitting flow n i (skip r) is fits = (fits.0, fits.1 ∙ sym is.next, fits.2, fits.3)
fitting flow n i negotiated is fits = is.negotiated ∙ fits
fitting flow n i (peer_finished last) is fits = is.peer_last ∙ unfinished i fits

-- a record that may follow is noted
pub length-records : (i : List InboxRecord) → length (records_of_inbox i) ≡ length i
length-records [] = refl
length-records (r ∷ i) = ap suc (length-records i)

noted_as : (flow : Flow) (records : List Record) (old new : Notes) (at : ℕ) (r : InboxRecord) → at ≡ length records → Noted flow records old → MayFollow flow old (record_of r)
    → HasNoted old new at (record_of r) → Noted flow (records ++ record_of r ∷ []) new
noted_as flow records old new at r here n may noted = record {
  list = n.list ++ r ∷ [];
  inbox = inbox_push flow records n.list r n.inbox (fits_behind flow old n.list r n.noticed may);
  noticed = notices_more flow old new at n.list r (here ∙ ap length n.inbox.spelled ∙ length-records n.list) may noted n.noticed;
}

pub noted_more : (flow : Flow) (records : List Record) (old new : Notes) (at : ℕ) (r : Record) → at ≡ length records → Noted flow records old → MayFollow flow old r → HasNoted old new at r
    → Noted flow (records ++ r ∷ []) new
noted_more flow records old new at (kinds.Entry _ _ _) here n may noted = absurd may
noted_more flow records old new at (kinds.Apply number payload) here n may noted = noted_as flow records old new at (apply (record { number = number; payload = payload })) here n may noted
noted_more flow records old new at (kinds.Skip from count) here n may noted = noted_as flow records old new at (skip (record { first = from; count = count })) here n may noted
noted_more flow records old new at kinds.Negotiated here n may noted = noted_as flow records old new at negotiated here n may noted
noted_more flow records old new at (kinds.PeerFinished last) here n may noted = noted_as flow records old new at (peer_finished last) here n may noted
noted_more flow records old new at kinds.Finish here n may noted = absurd may

-- the places stay below the number of records
still : (old new : Notes) (at : ℕ) → numbers_of new.places ≡ numbers_of old.places → IsWithin old at → IsWithin new (at + 1)
still old new at same within = subst (λ (ks : List ℕ). (k : ℕ) → k < length ks → slice_index ks k < at + 1) (sym same) (λ k here. omega (arith, within k here))

pub within_more : (old new : Notes) (at : ℕ) (r : Record) → HasNoted old new at r → IsWithin old at → IsWithin new (at + 1)
within_more old new at (kinds.Entry _ _ _) noted within = absurd noted
within_more old new at (kinds.Apply number payload) noted within =
    subst (λ (ks : List ℕ). (k : ℕ) → k < length ks → slice_index ks k < at + 1) (sym noted.places_are) (all_below (numbers_of old.places) at within)
  where
    all_below : (ks : List ℕ) (n : ℕ) → ((k : ℕ) → k < length ks → slice_index ks k < n) → (k : ℕ) → k < length (ks ++ n ∷ []) → slice_index (ks ++ n ∷ []) k < n + 1
    all_below [] n below zero within = omega arith
    all_below [] n below (suc k) within = absurd (omega arith)
    all_below (x ∷ ks) n below zero within = omega (arith, below 0 (omega arith))
    all_below (x ∷ ks) n below (suc k) within = all_below ks n (λ j here. below (suc j) (omega arith)) k (omega arith)
within_more old new at (kinds.Skip from count) noted within = λ k here. still old new at noted.places_are within k here
within_more old new at kinds.Negotiated noted within = λ k here. still old new at noted.places_are within k here
within_more old new at (kinds.PeerFinished last) noted within = λ k here. still old new at noted.places_are within k here
within_more old new at kinds.Finish noted within = absurd noted

-- and a record with which an inbox goes on may follow
pub follows : (flow : Flow) (records : List Record) (n : Notes) (r : Record) (i : List InboxRecord) → Noted flow records n → IsInbox flow (records ++ r ∷ []) i → MayFollow flow n r
follows flow records n r i noted is =
    let w = inbox_ends flow records r i is in
    let same : w.before ≡ noted.list = same_records w.before noted.list (sym w.inbox.spelled ∙ noted.inbox.spelled) in
    subst (MayFollow flow n) (sym w.is) (fitting flow n noted.list w.last noted.noticed (subst (λ (k : List InboxRecord). Fits flow k w.last) same w.fits))

shifted : (x : InboxRecord) (i : List InboxRecord) (p n : ℕ) (r : InboxRecord) → n + 1 ≤ p → slice_get i (p - (n + 1)) ≡ Some r → slice_get (x ∷ i) (p - n) ≡ Some r
shifted x i p n r above found =
    let one : p - n ≡ suc (p - (n + 1)) = omega arith in
    ap (λ (k : ℕ). slice_get (x ∷ i) k) one ∙ found

-- where the message applied at a place stands
pub record Placed (n : ℕ) (i : List InboxRecord) (k : ℕ) : Type 0 where
  pub message : Numbered
  pub above : n ≤ slice_index (places_from n i) k
  pub found : slice_get i (slice_index (places_from n i) k - n) ≡ Some (apply message)
  pub applied_is : slice_get (applied i) k ≡ Some message

pub placed : (n : ℕ) (i : List InboxRecord) (k : ℕ) → k < length (places_from n i) → Placed n i k
placed n [] k within = absurd (omega arith)
placed n (apply m ∷ i) zero within =
    let none : n - n ≡ 0 = omega arith in
    record { message = m; above = omega arith; found = ap (λ (p : ℕ). slice_get (apply m ∷ i) p) none; applied_is = refl }
placed n (apply m ∷ i) (suc k) within =
    let rest = placed (n + 1) i k (omega arith) in
    record { message = rest.message; above = omega (arith, rest.above); found = shifted (apply m) i (slice_index (places_from (n + 1) i) k) n (apply rest.message) rest.above rest.found; applied_is = rest.applied_is }
placed n (skip r ∷ i) k within =
    let rest = placed (n + 1) i k within in
    record { message = rest.message; above = omega (arith, rest.above); found = shifted (skip r) i (slice_index (places_from (n + 1) i) k) n (apply rest.message) rest.above rest.found; applied_is = rest.applied_is }
placed n (negotiated ∷ i) k within =
    let rest = placed (n + 1) i k within in
    record { message = rest.message; above = omega (arith, rest.above); found = shifted negotiated i (slice_index (places_from (n + 1) i) k) n (apply rest.message) rest.above rest.found; applied_is = rest.applied_is }
placed n (peer_finished last ∷ i) k within =
    let rest = placed (n + 1) i k within in
    record { message = rest.message; above = omega (arith, rest.above); found = shifted (peer_finished last) i (slice_index (places_from (n + 1) i) k) n (apply rest.message) rest.above rest.found; applied_is = rest.applied_is }
