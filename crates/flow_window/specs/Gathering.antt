-- A receiver with its window: its numbers, and the messages that it holds.
use Rattle.std.specs.Prelude.{ℕ, ◌+◌, ◌==◌, if◌then◌else◌, List, [], ◌∷◌, drop, length}
use Rattle.session_model.specs.Inbox.{Numbered}
use Rattle.flow_recover.specs.Receiving.{Receiving, fresh, after_message, seen, past}
use Rattle.flow_window.specs.Window.{Holding, holding}
use Rattle.flow_recover.specs.declared.numbers.Seen.{Seen}
use Rattle.flow_recover.specs.declared.numbers.Seen.TheVariants.{Deliver, Hold, Gap, Repeat}

pub record Gathering : Type 0 where
  pub numbers : Receiving
  pub held : List Numbered

-- a connection begins, and nothing is held
abbrev pub beginning : ℕ → Gathering
beginning next = record { numbers = fresh next; held = [] }

-- the held message that the inbox waited for is applied
abbrev pub dropped : Gathering → Gathering
dropped g = record { numbers = past g.numbers; held = drop 1 g.held }

-- what is held behind a message with this payload
abbrev pub held_as : Seen → List ℕ → List Numbered → List Numbered
held_as (Hold n) payload ms = holding n payload ms
held_as (Deliver n) payload ms = ms
held_as (Gap n) payload ms = ms
held_as (Repeat n) payload ms = ms

-- behind a message: it is counted, and held where it is seen as one to hold
abbrev pub after_held : Gathering → List ℕ → Gathering
after_held g payload = record { numbers = after_message g.numbers; held = held_as (seen g.numbers) payload g.held }

-- the held messages that are ready to be applied: their numbers follow one another from the next one on
abbrev pub ready : ℕ → List Numbered → List Numbered
ready next [] = []
ready next (m ∷ ms) = if m.number == next then m ∷ ready (next + 1) ms else []

-- the held messages behind those
abbrev pub waiting : ℕ → List Numbered → List Numbered
waiting next [] = []
waiting next (m ∷ ms) = if m.number == next then waiting (next + 1) ms else m ∷ ms

-- a window all of whose messages that are ready were applied
abbrev pub drained : Holding → Holding
drained w = record { next = w.next + length (ready w.next w.held); held = waiting w.next w.held }

-- the same of a receiver
abbrev pub all_dropped : Gathering → Gathering
all_dropped g = record {
  numbers = record g.numbers { next = g.numbers.next + length (ready g.numbers.next g.held) };
  held = waiting g.numbers.next g.held;
}
