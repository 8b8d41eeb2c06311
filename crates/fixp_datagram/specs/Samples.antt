-- Worked rows, for who reads the definitions: each is computed.
use Rattle.std.specs.Prelude.{◌≡◌, ℕ, List, [], ◌∷◌, ◌++◌, map, Some, None}
use Rattle.std.specs.Int.{w64, to_le_bytes}
use Rattle.session_model.specs.Journal.{Entry, counts_from}
use Rattle.session_model.specs.Inbox.{InboxRecord, apply, skip}
use Rattle.fixp_msgs.specs.declared.flow.Flow.TheVariants.{Recoverable, Idempotent}
use Rattle.fixp_msgs.specs.declared.numbering.Range.{Range}
use Rattle.fixp_datagram.specs.declared.receiver.Start.TheVariants as starts
use Rattle.fixp_datagram.specs.declared.receiver.DgSeen.TheVariants as messages
use Rattle.fixp_datagram.specs.Datagrams.{Contents}
use Rattle.fixp_datagram.specs.Packing.{packed, cut_at}
use Rattle.fixp_datagram.specs.Receiving.{fresh, start_of, seen_as, asked}
use Rattle.fixp_datagram.specs.Delivering.{Report, missing, deliver, late, deliveries, received_all}
use Rattle.fixp_datagram.specs.World.{Event, deliver as comes, restart, begun, run, accepts, writes}

-- the payload of message k: template 1 of schema 200 with no fields, and k in 8 bytes behind it
abbrev pub payload : ℕ → List ℕ
payload k = 0xEB ∷ 0x50 ∷ 0x08 ∷ 0x00 ∷ 0x01 ∷ 0x00 ∷ 0xC8 ∷ 0x00 ∷ 0x00 ∷ 0x00 ∷ to_le_bytes w64 k

-- six messages in three datagrams, of which these are delivered
abbrev pub six : List (List ℕ)
six = map payload (counts_from 1 6)

abbrev pub delivering : List ℕ → List Contents
delivering ks = map (cut_at 2 six) ks

abbrev pub got : ℕ → Report
got n = deliver (record { number = n; payload = payload n })

abbrev pub from_on : ℕ → ℕ → Range
from_on first count = record { from = first; count = count }

-- The second datagram is overtaken by the third, which comes again
abbrev pub overtaken : List Contents
overtaken = delivering (1 ∷ 3 ∷ 2 ∷ 3 ∷ [])

-- on a recoverable flow it is asked for, and what came too early comes again
abbrev pub RecoverableRow : Type 0
RecoverableRow =
    (deliveries (fresh Recoverable 1 6) overtaken
    ≡ record { reports = got 1 ∷ got 2 ∷ []; ask = None }
    ∷ record { reports = []; ask = Some (from_on 3 4) }
    ∷ record { reports = got 3 ∷ got 4 ∷ []; ask = Some (from_on 5 2) }
    ∷ record { reports = got 5 ∷ got 6 ∷ []; ask = None }
    ∷ [])
    × ((received_all (fresh Recoverable 1 6) overtaken).next ≡ 7)

-- on an idempotent flow it is missing, and is late when it comes
abbrev pub IdempotentRow : Type 0
IdempotentRow =
    (deliveries (fresh Idempotent 1 6) overtaken
    ≡ record { reports = got 1 ∷ got 2 ∷ []; ask = None }
    ∷ record { reports = missing (from_on 3 2) ∷ got 5 ∷ got 6 ∷ []; ask = None }
    ∷ record { reports = late 3 ∷ late 4 ∷ []; ask = None }
    ∷ record { reports = late 5 ∷ late 6 ∷ []; ask = None }
    ∷ [])
    × ((received_all (fresh Idempotent 1 6) overtaken).next ≡ 7)

-- A world in which that happens, the receiver being made again in between: it has each message once all the same
abbrev pub entry_of : List ℕ → Entry
entry_of p = record { sender = 1; own_number = 1; payload = p }

abbrev pub story : List Event
story = accepts (map entry_of six) ++ writes 2 6
    ++ comes 0 ∷ comes 2 ∷ restart ∷ comes 1 ∷ restart ∷ comes 1 ∷ comes 2 ∷ []

abbrev pub applied_number : ℕ → InboxRecord
applied_number n = apply (record { number = n; payload = payload n })

abbrev pub RestartedRow : Type 0
RestartedRow =
    ((run story (begun Recoverable 6)).inbox ≡ map applied_number (counts_from 1 6))
    × ((run story (begun Idempotent 6)).inbox
    ≡ applied_number 1 ∷ applied_number 2 ∷ skip (record { first = 3; count = 2 }) ∷ applied_number 5 ∷ applied_number 6 ∷ [])

-- The edges: a datagram begins with 1 to most + 1; of the numbers, those above most are too large; and at most 256 are asked for
abbrev pub EdgesRow : Type 0
EdgesRow =
    (start_of (fresh Recoverable 1 6) 0 ≡ starts.TooLarge) × (start_of (fresh Recoverable 1 6) 7 ≡ starts.Plain)
    × (start_of (fresh Recoverable 1 6) 8 ≡ starts.TooLarge) × (start_of (fresh Idempotent 1 6) 7 ≡ starts.Missing (from_on 1 6))
    × (seen_as 6 3 6 ≡ messages.Gap 6) × (seen_as 6 3 7 ≡ messages.TooLarge 7) × (seen_as 6 3 3 ≡ messages.Deliver 3)
    × (seen_as 6 3 2 ≡ messages.Late 2) × (asked 1 257 ≡ Some (from_on 1 256)) × (asked 1 258 ≡ Some (from_on 1 256))
    × (asked 1 256 ≡ Some (from_on 1 255)) × (asked 7 7 ≡ None)

-- The bytes of a datagram with one message: a Sequence with its number, 7, and the message's frame
abbrev pub PackedRow : Type 0
PackedRow =
    packed 7 (payload 7 ∷ [])
    ≡ 0x00 ∷ 0x00 ∷ 0x00 ∷ 0x16 ∷ 0xEB ∷ 0x50 ∷ 0x08 ∷ 0x00 ∷ 0x07 ∷ 0x00 ∷ 0x11 ∷ 0xF0 ∷ 0x00 ∷ 0x00
    ∷ 0x07 ∷ 0x00 ∷ 0x00 ∷ 0x00 ∷ 0x00 ∷ 0x00 ∷ 0x00 ∷ 0x00
    ∷ 0x00 ∷ 0x00 ∷ 0x00 ∷ 0x16 ∷ 0xEB ∷ 0x50 ∷ 0x08 ∷ 0x00 ∷ 0x01 ∷ 0x00 ∷ 0xC8 ∷ 0x00 ∷ 0x00 ∷ 0x00
    ∷ 0x07 ∷ 0x00 ∷ 0x00 ∷ 0x00 ∷ 0x00 ∷ 0x00 ∷ 0x00 ∷ 0x00 ∷ []
