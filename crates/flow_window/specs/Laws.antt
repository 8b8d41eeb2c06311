-- The laws of a receiver with a window, in the words of the session model.
use Rattle.std.specs.Prelude.{◌≡◌, ℕ, ◌+◌, ◌<◌, ◌≤◌, ◌==◌, if◌then◌else◌, ◌↔◌, List, [], ◌∷◌, ◌++◌, map, length, drop, Some, None, Contains, IsSome}
use Rattle.std.specs.List.{AllByRecursion}
use Rattle.session_model.specs.Journal.{counts_from}
use Rattle.session_model.specs.Inbox.{Numbered, InboxRecord, next_number, numbers_of}
use Rattle.session_model.specs.Inbox.InboxRecord.{apply}
use Rattle.session_model.specs.Events.{numbered}
use Rattle.session_model.specs.Growth.{chain, recoverable, GrownInOrder, GrownLater}
use Rattle.flow_recover.specs.Receiving.{Receiving, announced, retransmitted, number, seen_as, seen, gap}
use Rattle.flow_recover.specs.Laws.{Arrival, announcement, retransmission, message, event_of, given}
use Rattle.flow_window.specs.Window.{Holding, least, front, InReach}
use Rattle.flow_window.specs.Gathering.{Gathering, held_as, after_held, ready, waiting, drained, all_dropped}

-- what a numbered message makes of a window
abbrev pub met : Holding → Numbered → Holding
met w m = record {
  next = if m.number == w.next then w.next + 1 else w.next;
  held = held_as (seen_as w.next m.number) m.payload w.held;
}

-- what is applied as numbered messages come: each that is the next one, and behind each message the held ones that are ready
abbrev pub taken : Holding → List Numbered → List Numbered
taken w [] = []
taken w (m ∷ ms) = given (seen_as w.next m.number) m.payload ++ (ready (met w m).next (met w m).held ++ taken (drained (met w m)) ms)

-- and the window behind them
abbrev pub kept : Holding → List Numbered → Holding
kept w [] = w
kept w (m ∷ ms) = kept (drained (met w m)) ms

-- what is applied has consecutive numbers from the next one on
abbrev pub TakesInOrder : Type 0
TakesInOrder = (w : Holding) (ms : List Numbered) → numbers_of (taken w ms) ≡ counts_from w.next (length (taken w ms))

-- at least as many are applied as would be without a window
abbrev pub TakesChain : Type 0
TakesChain = (w : Holding) (ms : List Numbered) → length (chain w.next ms) ≤ length (taken w ms)

-- what is applied, and what is held behind it, came: now, or earlier where it was held before
abbrev pub HoldsWhatCame : Type 0
HoldsWhatCame = (w : Holding) (earlier ms : List Numbered) → AllByRecursion (λ m. Contains earlier m) w.held
    → AllByRecursion (λ m. Contains (earlier ++ ms) m) (taken w ms) × AllByRecursion (λ m. Contains (earlier ++ ms) m) (kept w ms).held

-- so an inbox that applies it grows in order
abbrev pub GrowsWithWindow : Type 0
GrowsWithWindow = (w : Holding) (earlier ms : List Numbered) (inbox : List InboxRecord)
    → next_number inbox ≡ w.next → AllByRecursion (λ m. Contains earlier m) w.held
    → GrownInOrder earlier ms inbox (inbox ++ map apply (taken w ms))

-- the window of a receiver
abbrev pub window_of : Gathering → Holding
window_of g = record { next = g.numbers.next; held = g.held }

-- what a receiver delivers of what comes, in order: behind each message its caller applies and drops the held ones that are ready
abbrev pub delivered : Gathering → List Arrival → List Numbered
delivered g [] = []
delivered g (announcement who n ∷ later) = delivered (record g { numbers = announced g.numbers n }) later
delivered g (retransmission n ∷ later) = delivered (record g { numbers = retransmitted g.numbers n }) later
delivered g (message payload ∷ later) =
    given (seen g.numbers) payload
    ++ (ready (after_held g payload).numbers.next (after_held g payload).held ++ delivered (all_dropped (after_held g payload)) later)

-- and the receiver behind it
abbrev pub behind : Gathering → List Arrival → Gathering
behind g [] = g
behind g (announcement who n ∷ later) = behind (record g { numbers = announced g.numbers n }) later
behind g (retransmission n ∷ later) = behind (record g { numbers = retransmitted g.numbers n }) later
behind g (message payload ∷ later) = behind (all_dropped (after_held g payload)) later

-- a receiver delivers what its window takes of the numbered messages
abbrev pub DeliversWhatIsTaken : Type 0
DeliversWhatIsTaken = (g : Gathering) (arrivals : List Arrival)
    → (delivered g arrivals ≡ taken (window_of g) (numbered (Some (number g.numbers)) (map event_of arrivals)))
    × (window_of (behind g arrivals) ≡ kept (window_of g) (numbered (Some (number g.numbers)) (map event_of arrivals)))

-- an inbox that waits for the receiver's next number, and applies what is delivered, is grown as a recoverable one, where what
-- is held came earlier on the connection. A connection begins with nothing held
abbrev pub GrowsRecoverable : Type 0
GrowsRecoverable = (g : Gathering) (earlier : List Numbered) (arrivals : List Arrival) (inbox : List InboxRecord)
    → next_number inbox ≡ g.numbers.next → AllByRecursion (λ m. Contains earlier m) g.held
    → GrownInOrder earlier (numbered (Some (number g.numbers)) (map event_of arrivals)) inbox (inbox ++ map apply (delivered g arrivals))

-- the same over a later part of a connection, whose earlier part began with nothing held
abbrev pub GrowsLater : Type 0
GrowsLater = (g : Gathering) (first second : List Arrival) (inbox : List InboxRecord)
    → g.held ≡ [] → next_number inbox ≡ (behind g first).numbers.next
    → GrownLater recoverable (Some (number g.numbers)) (map event_of first) (map event_of second) inbox
    (inbox ++ map apply (delivered (behind g first) second))

-- what is ready are the fronts, one after another, as each is dropped; behind them none is left
pub record ComesFrontByFront (next : ℕ) (held : List Numbered) : Type 0 where
  pub none : front next held ≡ None → (ready next held ≡ []) × (waiting next held ≡ held)
  pub some : (m : Numbered) → front next held ≡ Some m
      → (ready next held ≡ m ∷ ready (next + 1) (drop 1 held)) × (waiting next held ≡ waiting (next + 1) (drop 1 held))
  pub left : front (next + length (ready next held)) (waiting next held) ≡ None

abbrev pub FrontByFront : Type 0
FrontByFront = (next : ℕ) (held : List Numbered) → ComesFrontByFront next held

-- a window that waits for a number that it does not hold, and holds what is in reach, stays one
abbrev pub StaysInReach : Type 0
StaysInReach = (w : Holding) (m : Numbered) → InReach w.next w.held → front w.next w.held ≡ None
    → InReach (drained (met w m)).next (drained (met w m)).held × (front (drained (met w m)).next (drained (met w m)).held ≡ None)

-- where all that is held lies below the live number, there is a gap exactly where the next number is below the live one and
-- is not held
abbrev pub GapIsMissing : Type 0
GapIsMissing = (r : Receiving) (held : List Numbered) → InReach r.next held → AllByRecursion (λ n. n < r.live) (numbers_of held)
    → IsSome (gap (least held) r) ↔ ((r.next < r.live) × (front r.next held ≡ None))
