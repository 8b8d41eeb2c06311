-- Inboxes that go on from one message, over an outbox of three entries.
use Rattle.std.specs.Prelude.{ℕ, List, [], ◌∷◌}
use Rattle.session_model.specs.Journal.{Entry}
use Rattle.session_model.specs.Inbox.{InboxRecord, apply, skip}
use Rattle.two_ends.specs.GoingOn.{AppliesOn, SettlesOn, DeliversOn}

abbrev pub entry_of : (own_number payload : ℕ) → Entry
entry_of own_number payload = record { sender = 1; own_number = own_number; payload = payload ∷ [] }

abbrev pub message_of : (number payload : ℕ) → InboxRecord
message_of number payload = apply (record { number = number; payload = payload ∷ [] })

abbrev pub three_entries : List Entry
three_entries = entry_of 1 10 ∷ entry_of 2 20 ∷ entry_of 3 30 ∷ []

-- the first message was held
abbrev pub first_held : List InboxRecord
first_held = message_of 1 10 ∷ []

-- Then a recoverable inbox may apply the second; an idempotent one may be told that the second is missing, and apply the third; and one without numbers may
-- take the third alone, where the outbox began with the first
abbrev pub GoingOnSample : Type 0
GoingOnSample = AppliesOn three_entries first_held (message_of 1 10 ∷ message_of 2 20 ∷ [])
    × SettlesOn three_entries first_held (message_of 1 10 ∷ skip (record { first = 2; count = 1 }) ∷ message_of 3 30 ∷ [])
    × DeliversOn (entry_of 1 10 ∷ []) three_entries first_held (message_of 1 10 ∷ message_of 2 30 ∷ [])
