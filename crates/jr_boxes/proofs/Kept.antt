-- What is noted of the records of an inbox that are read, or added, one after another.
use Rattle.std.proofs.Common.{◌≡◌, ℕ, suc, ◌+◌, ◌<◌, List, [], ◌∷◌, ◌++◌, length, take, slice_get, slice_index, Some, length-take, refl, sym, ap, subst, ◌∙◌, arith}
use Rattle.std.proofs.lemmas.Option.{slice_get_within}
use Rattle.session_model.specs.Inbox.{InboxRecord, apply, skip, negotiated, peer_finished, applied}
use Rattle.fixp_msgs.specs.declared.flow.Flow.{Flow}
use Rattle.jr_places.specs.Numbers.{numbers_of}
use Rattle.jr_record.specs.declared.record.Record.{Record}
use Rattle.jr_record.specs.declared.record.Record.TheVariants as kinds
use Rattle.jr_boxes.specs.declared.notes.Notes.{Notes}
use Rattle.jr_boxes.specs.Inboxes.{IsInbox, IsWrongAt}
use Rattle.jr_boxes.specs.Notes.{Becomes, Notices, Noted, MayFollow, HasNoted, IsWithin, places_from}
use Rattle.jr_boxes.proofs.Reading.{take_one_more}
use Rattle.jr_boxes.proofs.Noting.{noted_more, follows}

-- the same notes, whatever room they have
abbrev pub SameNotes : Notes → Notes → Type 0
SameNotes old new = Becomes old new old.next old.negotiated old.peer_last (numbers_of old.places)

pub notices_same : (old new : Notes) → SameNotes old new → (i : List InboxRecord) → Notices old i → Notices new i
notices_same old new same i n = record {
  next = same.next_is ∙ n.next;
  negotiated = same.negotiated_is ∙ n.negotiated;
  peer_last = same.peer_last_is ∙ n.peer_last;
  places = same.places_are ∙ n.places;
}

pub same_self : (n : Notes) → SameNotes n n
same_self n = record { next_is = refl; negotiated_is = refl; peer_last_is = refl; places_are = refl }

-- a message that was noted behind room for it
pub noted_behind : (n k m : Notes) (at number : ℕ) (payload : List ℕ) → SameNotes n k → HasNoted k m at (kinds.Apply number payload) → HasNoted n m at (kinds.Apply number payload)
noted_behind n k m at number payload same noted = record {
  next_is = noted.next_is;
  negotiated_is = noted.negotiated_is ∙ same.negotiated_is;
  peer_last_is = noted.peer_last_is ∙ same.peer_last_is;
  places_are = noted.places_are ∙ ap (λ (ks : List ℕ). ks ++ at ∷ []) same.places_are;
}

-- nothing is noted of no records
pub nothing_noted : (flow : Flow) (n : Notes) → Notices n [] → Noted flow [] n
nothing_noted flow n is = record { list = []; inbox = record { spelled = refl; fits = λ before after r split. absurd (never_empty before after r split) }; noticed = is }
  where
    never_empty : (before after : List InboxRecord) (r : InboxRecord) → [] ≡ before ++ r ∷ after → ⊥
    never_empty [] after r split = cc
    never_empty (x ∷ before) after r split = cc

-- the places that are noted
pub within_same : (n m : Notes) (at more : ℕ) → SameNotes n m → more ≡ at → IsWithin n at → IsWithin m more
within_same n m at more same is within =
    subst (λ (ks : List ℕ). (k : ℕ) → k < length ks → slice_index ks k < more) (sym same.places_are) (λ k here. omega (arith, within k here, is))

pub length-places : (n : ℕ) (i : List InboxRecord) → length (places_from n i) ≡ length (applied i)
length-places n [] = refl
length-places n (apply _ ∷ i) = ap suc (length-places (n + 1) i)
length-places n (skip _ ∷ i) = length-places (n + 1) i
length-places n (negotiated ∷ i) = length-places (n + 1) i
length-places n (peer_finished _ ∷ i) = length-places (n + 1) i

-- a record of an inbox that was read and may follow, and one that may not
length_taken : (records : List Record) (at : ℕ) (r : Record) → slice_get records at ≡ Some r → at ≡ length (take at records)
length_taken records at r is = omega (arith, slice_get_within records at r is, length-take at records)

pub noted_on : (flow : Flow) (records : List Record) (at : ℕ) (old new : Notes) (r : Record) → slice_get records at ≡ Some r → Noted flow (take at records) old → MayFollow flow old r → HasNoted old new at r
    → Noted flow (take (at + 1) records) new
noted_on flow records at old new r is noted may has =
    subst (λ (rs : List Record). Noted flow rs new) (sym (take_one_more records at r is)) (noted_more flow (take at records) old new at r (length_taken records at r is) noted may has)

pub wrong_here : (flow : Flow) (records : List Record) (at : ℕ) (n : Notes) (r : Record) → slice_get records at ≡ Some r → Noted flow (take at records) n → (MayFollow flow n r → ⊥) → IsWrongAt flow records at
wrong_here flow records at n r is noted never = record {
  within = slice_get_within records at r is;
  list = noted.list;
  before = noted.inbox;
  excluded = λ i with_it. never (follows flow (take at records) n r i noted (subst (λ (rs : List Record). IsInbox flow rs i) (take_one_more records at r is) with_it));
}
