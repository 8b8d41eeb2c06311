-- An inbox that goes on from what it held: what it comes to hold of the other end's outbox behind that (this project's profile).
use Rattle.std.specs.Prelude.{◌≡◌, ◌+◌, ◌-◌, ◌≤◌, max, List, [], ◌++◌, length}
use Rattle.std.specs.List.{AllByRecursion}
use Rattle.session_model.specs.Journal.{Entry, OutboxRecord, IsEntry, counts_from}
use Rattle.session_model.specs.Inbox.{Numbered, InboxRecord, applied, skips, settled, next_number, numbers_of, payloads_of, SameNumbers}
use Rattle.session_model.specs.Events.{Rising}
use Rattle.fixp_msgs.specs.declared.flow.Flow.{Flow}
use Rattle.fixp_msgs.specs.declared.flow.Flow.TheVariants as flows

-- what both journals of an end hold
pub record Boxes : Type 0 where
  pub outbox : List OutboxRecord
  pub inbox : List InboxRecord

-- those of a new session
abbrev pub new_boxes : Boxes
new_boxes = record { outbox = []; inbox = [] }

-- these messages are entries of the outbox, each by its number
abbrev pub AreEntries : List Entry → List Numbered → Type 0
AreEntries h ms = AllByRecursion (λ (m : Numbered). IsEntry h m.number m.payload) ms

-- On a recoverable flow it applies the entries from the number on that it awaited, in order, and skips none
pub record AppliesOn (h : List Entry) (held inbox : List InboxRecord) : Type 0 where
  pub added : List InboxRecord
  pub behind : inbox ≡ held ++ added
  pub counted : numbers_of (applied added) ≡ counts_from (next_number held) (length (applied added))
  pub entries : AreEntries h (applied added)
  pub whole : skips added ≡ []

-- On an idempotent one each number from the awaited one on is applied, as the entry of that number, or told to be missing, once. It comes to await no
-- number past the one behind the last entry, unless it did
pub record SettlesOn (h : List Entry) (held inbox : List InboxRecord) : Type 0 where
  pub added : List InboxRecord
  pub behind : inbox ≡ held ++ added
  pub grows : next_number held ≤ next_number inbox
  pub once : SameNumbers (settled added) (counts_from (next_number held) (next_number inbox - next_number held))
  pub entries : AreEntries h (applied added)
  pub within : next_number inbox ≤ max (next_number held) (length h + 1)

-- On an unsequenced one it delivers entries that the outbox did not begin with, in their order, and nothing twice
pub record DeliversOn (begun h : List Entry) (held inbox : List InboxRecord) : Type 0 where
  pub added : List InboxRecord
  pub behind : inbox ≡ held ++ added
  pub rising : Rising h (length begun) (payloads_of (applied added))
  pub counted : numbers_of (applied added) ≡ counts_from (next_number held) (length (applied added))
  pub whole : skips added ≡ []

-- Where there is no flow it takes nothing
pub record TakesNone (held inbox : List InboxRecord) : Type 0 where
  pub added : List InboxRecord
  pub behind : inbox ≡ held ++ added
  pub none : applied added ≡ []
  pub whole : skips added ≡ []

-- by the kind of the other end's flow, whose outbox began with these entries and has these
abbrev pub HoldsOn : Flow → (begun h : List Entry) → (held inbox : List InboxRecord) → Type 0
HoldsOn flows.Recoverable begun h held inbox = AppliesOn h held inbox
HoldsOn flows.Idempotent begun h held inbox = SettlesOn h held inbox
HoldsOn flows.Unsequenced begun h held inbox = DeliversOn begun h held inbox
HoldsOn flows.None begun h held inbox = TakesNone held inbox
