-- Worked rows of the window, for who reads the definitions: each is computed.
use Rattle.std.specs.Prelude.{◌≡◌, ℕ, List, [], ◌∷◌, ◌++◌, Option, Some, None}
use Rattle.session_model.specs.Inbox.{Numbered}
use Rattle.session_model.specs.Events.{handshake, in_flow}
use Rattle.fixp_msgs.specs.declared.numbering.Range.{Range}
use Rattle.flow_recover.specs.Laws.{Arrival, announcement, retransmission, message}
use Rattle.flow_recover.specs.declared.numbers.Seen.TheVariants.{Deliver, Hold, Gap, Repeat}
use Rattle.flow_window.specs.Window.{holding, least, front}
use Rattle.flow_recover.specs.Receiving.{seen_as, gap}
use Rattle.flow_window.specs.Gathering.{Gathering, beginning, dropped}
use Rattle.flow_window.specs.Laws.{delivered, behind}

-- a message whose payload is its own number
abbrev pub own : ℕ → Numbered
own n = record { number = n; payload = n ∷ [] }

abbrev pub comes : ℕ → Arrival
comes n = message (n ∷ [])

abbrev pub missing : ℕ → ℕ → Option Range
missing from count = Some (record { from = from; count = count })

abbrev pub gap_of : Gathering → Option Range
gap_of g = gap (least g.held) g.numbers

-- the inbox waits for 4: 3 is there, 4 is delivered, 5 to 260 are held, 261 is not
abbrev pub EdgeRow : Type 0
EdgeRow = (seen_as 4 3 ≡ Repeat 3) × (seen_as 4 4 ≡ Deliver 4) × (seen_as 4 5 ≡ Hold 5) × (seen_as 4 260 ≡ Hold 260) × (seen_as 4 261 ≡ Gap 261)

-- messages are held by rising numbers, and the first of two under one number stays
abbrev pub HeldRow : Type 0
HeldRow =
    (holding 6 (6 ∷ []) (holding 7 (7 ∷ []) []) ≡ own 6 ∷ own 7 ∷ [])
    × (holding 6 (9 ∷ []) (own 6 ∷ own 7 ∷ []) ≡ own 6 ∷ own 7 ∷ [])

-- the front is the next number's message alone, and one is dropped at a time
abbrev pub FrontRow : Type 0
FrontRow =
    (front 4 (own 6 ∷ own 7 ∷ []) ≡ None)
    × (front 6 (own 6 ∷ own 7 ∷ []) ≡ Some (own 6))
    × ((dropped (record (beginning 6) { held = own 6 ∷ own 7 ∷ [] })).held ≡ own 7 ∷ [])

-- the inbox waits for 4 and 6 is announced; 6 and 7 come live, and then what was asked for: 4 to 7 are delivered, and no other
-- gap shows
abbrev pub first_part : List Arrival
first_part = announcement handshake 6 ∷ comes 6 ∷ comes 7 ∷ []

abbrev pub second_part : List Arrival
second_part = retransmission 4 ∷ comes 4 ∷ comes 5 ∷ []

abbrev pub RetransmittedRow : Type 0
RetransmittedRow =
    (delivered (beginning 4) first_part ≡ [])
    × (gap_of (behind (beginning 4) first_part) ≡ missing 4 2)
    × (delivered (behind (beginning 4) first_part) second_part ≡ own 4 ∷ own 5 ∷ own 6 ∷ own 7 ∷ [])
    × (gap_of (behind (beginning 4) (first_part ++ second_part)) ≡ None)

-- a peer that answers in parts: 8 is announced and held, 4 and 5 are sent again; the gap that is left ends before 8
abbrev pub third_part : List Arrival
third_part = announcement handshake 8 ∷ comes 8 ∷ retransmission 4 ∷ comes 4 ∷ comes 5 ∷ announcement in_flow 9 ∷ []

abbrev pub InPartsRow : Type 0
InPartsRow =
    (delivered (beginning 4) third_part ≡ own 4 ∷ own 5 ∷ [])
    × (gap_of (behind (beginning 4) third_part) ≡ missing 6 2)
    × (delivered (behind (beginning 4) third_part) (retransmission 6 ∷ comes 6 ∷ comes 7 ∷ []) ≡ own 6 ∷ own 7 ∷ own 8 ∷ [])
