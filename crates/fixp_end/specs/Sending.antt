-- Entries that are sent: their payloads, and their numbers.
use Rattle.std.specs.Prelude.{◌≡◌, ◌≤◌, ◌*◌, ℕ, List, map, length, All}
use Rattle.jr_record.specs.Records.{IsPayload}
use Rattle.fixp_machine.specs.Machine.{payload_frames}
use Rattle.session_model.specs.Inbox.{Numbered}
use Rattle.session_model.specs.Journal.{counts_from}

-- of numbered messages, their payloads
abbrev pub payloads_of : List Numbered → List (List ℕ)
payloads_of = map (λ (m : Numbered). m.payload)

-- they have consecutive numbers from this one on
abbrev pub AreFrom : ℕ → List Numbered → Type 0
AreFrom first messages = map (λ (m : Numbered). m.number) messages ≡ counts_from first (length messages)

-- the frames of entries of a journal have at most 16,390 bytes each
abbrev pub FramesFit : Type 0
FramesFit = (entries : List Numbered) → All (λ (m : Numbered). IsPayload m.payload) entries
    → length (payload_frames (payloads_of entries)) ≤ 16390 * length entries
