-- What an inbox holds while its journal does: `jr_boxes` says what an inbox's list is, and how its records are noted.
use Rattle.std.specs.Prelude.{◌≡◌, ℕ, ◌+◌, List, [], ◌∷◌, map, length, take, Option}
use Rattle.session_model.specs.Inbox.{InboxRecord, apply}
use Rattle.fixp_msgs.specs.declared.flow.Flow.{Flow}
use Rattle.jr_dated.specs.declared.limits.Limits.{Limits}
use Rattle.jr_dated.specs.Dated.{Dated, undated}
use Rattle.jr_dated.specs.Journals.{Holds, HoldsEither, fitting}
use Rattle.jr_boxes.specs.Inboxes.{IsInbox, records_of_inbox, record_of}
use Rattle.jr_boxes.specs.Notes.{Notices}
use Rattle.jr_boxes.specs.declared.notes.Notes.{Notes}

-- the journal stands for the records of an inbox, each with some moment, and they were noted
pub record StandsAs {J : Type 0} (stands : J → List Dated → Type 0) (j : J) (flow : Flow) (n : Notes) (i : List InboxRecord) : Type 0 where
  pub dated : List Dated
  pub bare : undated dated ≡ records_of_inbox i
  pub journal : stands j dated
  pub inbox : IsInbox flow (records_of_inbox i) i
  pub noticed : Notices n i

-- and every image of it holds these, and a beginning of the records refused
pub record HoldsAs {J : Type 0} (stands : J → List Dated → Type 0) (leaves : J → Option (List Dated) → Type 0) (j : J) (flow : Flow) (n : Notes)
    (i refused : List InboxRecord) : Type 0 where
  pub dated : List Dated
  pub late : List Dated
  pub bare : undated dated ≡ records_of_inbox i
  pub bare_late : undated late ≡ map record_of refused
  pub journal : Holds stands leaves j dated late
  pub inbox : IsInbox flow (records_of_inbox i) i
  pub noticed : Notices n i

-- and every image of it holds these, or these and all of the records refused
pub record HoldsEitherAs {J : Type 0} (stands : J → List Dated → Type 0) (leaves : J → Option (List Dated) → Type 0) (j : J) (flow : Flow) (n : Notes)
    (i refused : List InboxRecord) : Type 0 where
  pub dated : List Dated
  pub late : List Dated
  pub bare : undated dated ≡ records_of_inbox i
  pub bare_late : undated late ≡ map record_of refused
  pub journal : HoldsEither stands leaves j dated late
  pub inbox : IsInbox flow (records_of_inbox i) i
  pub noticed : Notices n i

-- messages with these payloads are applied, the first under this number
abbrev pub applies : ℕ → List (List ℕ) → List InboxRecord
applies n [] = []
applies n (p ∷ ps) = apply (record { number = n; payload = p }) ∷ applies (n + 1) ps

-- of these records those before the first that is past the limit of bytes, behind so many bytes
abbrev pub fitting_records : Limits → (bytes : ℕ) → List InboxRecord → List InboxRecord
fitting_records limits bytes i = take (length (fitting limits bytes (records_of_inbox i))) i
