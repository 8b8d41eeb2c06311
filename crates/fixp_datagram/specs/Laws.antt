-- The laws of flows in datagrams, over every list of events.
use Rattle.std.specs.Prelude.{◌≡◌, ◌↔◌, ℕ, ◌+◌, ◌-◌, ◌<◌, ◌≤◌, max, List, [], ◌∷◌, ◌++◌, map, length, drop, slice_get, Some}
use Rattle.std.specs.List.{flat_map, AllByRecursion}
use Rattle.session_model.specs.Journal.{Entry, payloads}
use Rattle.session_model.specs.Inbox.{Numbered, apply, skips, next_number}
use Rattle.session_model.specs.Events.{announce, in_flow, message, numbered}
use Rattle.session_model.specs.Events as events
use Rattle.session_model.specs.Growth.{recoverable, idempotent, GrownThrough, AppliesPrefix, SettlesOnce}
use Rattle.fixp_msgs.specs.declared.flow.Flow.{Flow}
use Rattle.fixp_msgs.specs.declared.flow.Flow.TheVariants.{Recoverable, Idempotent}
use Rattle.fixp_datagram.specs.Datagrams.{Contents, SpellsDatagram}
use Rattle.fixp_datagram.specs.Packing.{cut, cut_at, cut_count}
use Rattle.fixp_datagram.specs.Receiving.{IsCarried, Receiver, fresh, ask}
use Rattle.fixp_datagram.specs.Calls.{Call, called, calls_of, reported, IsKnown, IsIn}
use Rattle.fixp_datagram.specs.Delivering.{Delivery, deliveries, received_all, recorded}
use Rattle.fixp_datagram.specs.World.{World, Event, deliver, accepts, writes, delivers, begun, happens, run, jumps_over}

-- Whatever is lost, repeated or reordered, and whenever the receiver is made again: a recoverable inbox is a prefix of what was
-- accepted, each entry once under its number
abbrev pub RecoverableIsPrefix : Type 0
RecoverableIsPrefix = (most : ℕ) (events : List Event)
    → AppliesPrefix (run events (begun Recoverable most)).history (run events (begun Recoverable most)).inbox

-- what an idempotent inbox keeps: each number below its next one stands there once, as applied or as missing; what is applied
-- is the entry of that number; and the missing numbers are exactly those that the datagrams jumped over
pub record HasEachOnce (w : World) : Type 0 where
  pub settles : SettlesOnce w.history w.inbox
  pub jumps : skips w.inbox ≡ jumps_over 1 w.delivered

abbrev pub IdempotentHasEachOnce : Type 0
IdempotentHasEachOnce = (most : ℕ) (events : List Event) → HasEachOnce (run events (begun Idempotent most))

-- a datagram has the message with this number
pub record HasNumber (d : Contents) (n : ℕ) : Type 0 where
  pub from_first : d.first ≤ n
  pub to_last : n < d.first + length d.payloads

-- a message from a number on, each under its number
abbrev pub numbered_from : ℕ → List (List ℕ) → List Numbered
numbered_from n ps = numbered (Some n) (map message ps)

-- a datagram that has the message which the inbox waits for grows it, on either flow, by all its messages from there on
abbrev pub NextGrows : Type 0
NextGrows = (flow : Flow) (most : ℕ) (events : List Event) (place : ℕ) (d : Contents) → IsCarried flow
    → let w : World = run events (begun flow most) in
    slice_get w.written place ≡ Some d → HasNumber d (next_number w.inbox)
    → (happens w (deliver place)).inbox
    ≡ w.inbox ++ map apply (numbered_from (next_number w.inbox) (drop (next_number w.inbox - d.first) d.payloads))

-- a datagram as events of the session model: its Sequence announces the first number, and its messages follow
abbrev pub events_of : Contents → List events.Event
events_of d = announce in_flow (Some d.first) ∷ map message d.payloads

-- what a datagram has that is not behind the number reached
abbrev pub news : ℕ → Contents → Contents
news next d = record { first = max next d.first; payloads = drop (next - d.first) d.payloads }

abbrev pub all_news : ℕ → List Contents → List (List events.Event)
all_news next [] = []
all_news next (d ∷ ds) = events_of (news next d) ∷ all_news (max next (d.first + length d.payloads)) ds

-- the inbox grows as the session model has it of its flow, each datagram being a connection of its own: a recoverable one by
-- what the datagrams carry, and an idempotent one by what they have that is not behind the number reached
abbrev pub RecoverableGrows : Type 0
RecoverableGrows = (most : ℕ) (events : List Event)
    → let w : World = run events (begun Recoverable most) in GrownThrough recoverable (map events_of w.delivered) [] w.inbox

abbrev pub IdempotentGrows : Type 0
IdempotentGrows = (most : ℕ) (events : List Event)
    → let w : World = run events (begun Idempotent most) in GrownThrough idempotent (all_news 1 w.delivered) [] w.inbox

-- the receiver waits for the number that the inbox waits for
abbrev pub ReceiverFollows : Type 0
ReceiverFollows = (flow : Flow) (most : ℕ) (events : List Event) → IsCarried flow
    → (run events (begun flow most)).receiver.next ≡ next_number (run events (begun flow most)).inbox

-- The receiver's calls are the deliveries: over the datagrams one behind another, on_start with the first number of each, and
-- on_app for each of its messages unless it was dropped, report what the deliveries report and leave the same receiver
abbrev pub CallsAreDeliveries : Type 0
CallsAreDeliveries = (r : Receiver) (ds : List Contents)
    → (reported r (calls_of r ds) ≡ flat_map (λ (d : Delivery). d.reports) (deliveries r ds))
    × (called r (calls_of r ds) ≡ received_all r ds)

-- What is asked for: over any calls, on a recoverable flow, exactly those of the first 256 numbers from the next one on that
-- are below an announced number or were counted
abbrev pub AsksKnown : Type 0
AsksKnown = (next most : ℕ) (calls : List Call) (n : ℕ)
    → let r : Receiver = called (fresh Recoverable next most) calls in
    IsIn (ask r) n ↔ ((r.next ≤ n) × (n < r.next + 256) × IsKnown (fresh Recoverable next most) calls n)

-- at most one datagram is spelled by given bytes
abbrev pub OneDatagram : Type 0
OneDatagram = (bytes : List ℕ) (a b : Contents) → SpellsDatagram bytes a → SpellsDatagram bytes b → a ≡ b

-- what a world has where some datagrams were delivered one behind another, each of which had been written
pub record HasDelivered (w after : World) (ds : List Contents) : Type 0 where
  pub receiver : after.receiver ≡ received_all w.receiver ds
  pub inbox : after.inbox ≡ w.inbox ++ recorded (flat_map (λ (d : Delivery). d.reports) (deliveries w.receiver ds))
  pub delivered : after.delivered ≡ w.delivered ++ ds

abbrev pub DeliveriesAreEvents : Type 0
DeliveriesAreEvents = (w : World) (places : List ℕ) (ds : List Contents)
    → map (slice_get w.written) places ≡ map Some ds → HasDelivered w (run (map deliver places) w) ds

-- entries that are accepted and written in datagrams of `per`: these are written, and nothing else happened
abbrev pub CutIsWritten : Type 0
CutIsWritten = (flow : Flow) (most per : ℕ) (h : List Entry) → 1 ≤ per → length h ≤ most
    → run (accepts h ++ writes per (length h)) (begun flow most)
    ≡ record (begun flow most) { history = h; written = cut per (payloads h) }

-- entries that are accepted and written in datagrams of `per`, of which those with these numbers are delivered: what is
-- delivered, recorded and received is that of the deliveries, one behind another
abbrev pub CutIsDelivered : Type 0
CutIsDelivered = (flow : Flow) (most per : ℕ) (h : List Entry) (ks : List ℕ) → 1 ≤ per → length h ≤ most
    → AllByRecursion (λ k. (1 ≤ k) × (k ≤ cut_count per (length h))) ks
    → HasDelivered (begun flow most) (run (accepts h ++ writes per (length h) ++ delivers ks) (begun flow most)) (map (cut_at per (payloads h)) ks)
