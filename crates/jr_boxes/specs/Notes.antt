-- What an inbox notes of its records.
use Rattle.std.specs.Prelude.{◌≡◌, ℕ, ◌+◌, ◌<◌, ◌≤◌, ◌^◌, Bool, true, false, List, [], ◌∷◌, ◌++◌, length, slice_index, Option, Some, None}
use Rattle.session_model.specs.Inbox.{InboxRecord, apply, skip, negotiated, peer_finished, next_number}
use Rattle.fixp_msgs.specs.declared.flow.Flow.{Flow}
use Rattle.fixp_msgs.specs.declared.flow.Flow.TheVariants as flows
use Rattle.jr_places.specs.Numbers.{numbers_of}
use Rattle.jr_record.specs.declared.record.Record.{Record}
use Rattle.jr_record.specs.declared.record.Record.TheVariants as kinds
use Rattle.jr_boxes.specs.Inboxes.{IsInbox, has_negotiated, peer_last_in}
use Rattle.jr_boxes.specs.declared.notes.Notes.{Notes}

-- the places of the messages applied, the first record's place being n
abbrev pub places_from : ℕ → List InboxRecord → List ℕ
places_from n [] = []
places_from n (apply _ ∷ i) = n ∷ places_from (n + 1) i
places_from n (skip _ ∷ i) = places_from (n + 1) i
places_from n (negotiated ∷ i) = places_from (n + 1) i
places_from n (peer_finished _ ∷ i) = places_from (n + 1) i

-- the notes are those of these records
pub record Notices (n : Notes) (i : List InboxRecord) : Type 0 where
  pub next : n.next ≡ next_number i
  pub negotiated : n.negotiated ≡ has_negotiated i
  pub peer_last : n.peer_last ≡ peer_last_in i
  pub places : numbers_of n.places ≡ places_from 0 i

-- the records are those of an inbox, and were noted
pub record Noted (flow : Flow) (records : List Record) (n : Notes) : Type 0 where
  pub list : List InboxRecord
  pub inbox : IsInbox flow records list
  pub noticed : Notices n list

-- each place is below this one
abbrev pub IsWithin : Notes → ℕ → Type 0
IsWithin n count = (k : ℕ) → k < length (numbers_of n.places) → slice_index (numbers_of n.places) k < count

-- What may stand behind the records noted
abbrev pub MayFollow : Flow → Notes → Record → Type 0
MayFollow flow n (kinds.Entry _ _ _) = ⊥
MayFollow flow n (kinds.Apply number _) = (number ≡ n.next) × (number + 1 < 2 ^ 64)
MayFollow flow n (kinds.Skip from count) = (flow ≡ flows.Idempotent) × (from ≡ n.next) × (1 ≤ count) × (from + count < 2 ^ 64)
MayFollow flow n kinds.Negotiated = n.negotiated ≡ false
MayFollow flow n (kinds.PeerFinished _) = n.peer_last ≡ None
MayFollow flow n kinds.Finish = ⊥

-- a record at this place was noted
pub record Becomes (old new : Notes) (next : ℕ) (negotiated : Bool) (peer_last : Option ℕ) (places : List ℕ) : Type 0 where
  pub next_is : new.next ≡ next
  pub negotiated_is : new.negotiated ≡ negotiated
  pub peer_last_is : new.peer_last ≡ peer_last
  pub places_are : numbers_of new.places ≡ places

abbrev pub HasNoted : Notes → Notes → ℕ → Record → Type 0
HasNoted old new at (kinds.Entry _ _ _) = ⊥
HasNoted old new at (kinds.Apply number _) = Becomes old new (number + 1) old.negotiated old.peer_last (numbers_of old.places ++ at ∷ [])
HasNoted old new at (kinds.Skip from count) = Becomes old new (from + count) old.negotiated old.peer_last (numbers_of old.places)
HasNoted old new at kinds.Negotiated = Becomes old new old.next true old.peer_last (numbers_of old.places)
HasNoted old new at (kinds.PeerFinished last) = Becomes old new old.next old.negotiated (Some last) (numbers_of old.places)
HasNoted old new at kinds.Finish = ⊥
