-- Datagrams over a network that loses, repeats and reorders them, as a list of events (this project's profile). A loss is a
-- delivery that never comes.
use Rattle.std.specs.Prelude.{ℕ, ◌+◌, ◌-◌, ◌*◌, min, max, nat_lt, nat_le, ◌&&◌, Bool, if◌then◌else◌, List, [], ◌∷◌, ◌++◌, map, length, take, drop, slice_get, Option, Some, None}
use Rattle.session_model.specs.Journal.{Entry, payloads, counts_from}
use Rattle.session_model.specs.Inbox.{Range, InboxRecord, next_number}
use Rattle.session_model.specs.Growth.{jump}
use Rattle.fixp_msgs.specs.declared.flow.Flow.{Flow}
use Rattle.fixp_datagram.specs.Datagrams.{Contents}
use Rattle.fixp_datagram.specs.Packing.{cut_count}
use Rattle.fixp_datagram.specs.Receiving.{Receiver, fresh}
use Rattle.fixp_datagram.specs.Delivering.{reports, received, recorded}

-- what the sender accepted, in the order of numbers; every datagram that was ever written; the receiver; what it delivered and
-- gave up; and which datagrams were delivered, in order
pub record World : Type 0 where
  pub flow : Flow
  pub most : ℕ
  pub history : List Entry
  pub written : List Contents
  pub receiver : Receiver
  pub inbox : List InboxRecord
  pub delivered : List Contents

-- an entry is accepted; a datagram of so many entries from a number on is written; the datagram with this place among those
-- written is delivered, maybe again; the receiver is made again
pub data Event : Type 0 where
  accept : Entry → Event
  write : (first count : ℕ) → Event
  deliver : (place : ℕ) → Event
  restart : Event

-- nothing happened yet
abbrev pub begun : Flow → ℕ → World
begun flow most = record {
  flow = flow;
  most = most;
  history = [];
  written = [];
  receiver = fresh flow 1 most;
  inbox = [];
  delivered = [];
}

-- `count` entries from number `first` on, under their true number
abbrev pub entries_from : List Entry → (first count : ℕ) → Contents
entries_from h first count = record { first = first; payloads = take count (drop (first - 1) (payloads h)) }

-- they all are entries
abbrev pub are_entries : List Entry → (first count : ℕ) → Bool
are_entries h first count = nat_le 1 first && nat_le (first + count) (length h + 1)

-- the inbox grows by what the receiver delivers and reports missing
abbrev pub delivered_to : World → Option Contents → World
delivered_to w None = w
delivered_to w (Some d) =
    record w {
      receiver = received w.receiver d;
      inbox = w.inbox ++ recorded (reports w.receiver d);
      delivered = w.delivered ++ d ∷ [];
    }

-- what an event makes of the world. What cannot be changes nothing
abbrev pub happens : World → Event → World
happens w (accept e) = if nat_lt (length w.history) w.most then record w { history = w.history ++ e ∷ [] } else w
happens w (write first count) =
    if are_entries w.history first count then record w { written = w.written ++ entries_from w.history first count ∷ [] } else w
happens w (deliver place) = delivered_to w (slice_get w.written place)
happens w restart = record w { receiver = fresh w.flow (next_number w.inbox) w.most }

-- a whole list of events
abbrev pub run : List Event → World → World
run [] w = w
run (e ∷ es) w = run es (happens w e)

-- all entries are accepted, and written in datagrams with `per` of them each, the last with what is left
abbrev pub accepts : List Entry → List Event
accepts h = map accept h

abbrev pub writes : (per count : ℕ) → List Event
writes per count = map (λ k. write (1 + (k - 1) * per) (min per (count - (k - 1) * per))) (counts_from 1 (cut_count per count))

-- the datagrams with these numbers among those written, from 1 on, are delivered one behind another
abbrev pub places_of : List ℕ → List ℕ
places_of ks = map (λ k. k - 1) ks

abbrev pub delivers : List ℕ → List Event
delivers ks = map deliver (places_of ks)

-- the jumps of some datagrams, in order, where `next` is the number reached: from it up to a first number beyond it
abbrev pub jumps_over : ℕ → List Contents → List Range
jumps_over next [] = []
jumps_over next (d ∷ ds) = jump next (Some d.first) ++ jumps_over (max next (d.first + length d.payloads)) ds
