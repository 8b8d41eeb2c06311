-- The calls of a receiver, one behind another.
use Rattle.std.specs.Prelude.{◌≡◌, ℕ, ◌+◌, ◌<◌, ◌≤◌, ◌⊎◌, true, List, [], ◌∷◌, ◌++◌, map, Option, Some, None}
use Rattle.fixp_msgs.specs.declared.numbering.Range.{Range}
use Rattle.fixp_datagram.specs.declared.receiver.Start.{Start}
use Rattle.fixp_datagram.specs.declared.receiver.Start.TheVariants as starts
use Rattle.fixp_datagram.specs.Datagrams.{Contents}
use Rattle.fixp_datagram.specs.Receiving.{Receiver, may_begin, start_of, started, number, seen, counted}
use Rattle.fixp_datagram.specs.Delivering.{Report, missing, told, received}

-- a call: of on_start with a datagram's first number, or of on_app for a message with this payload
pub data Call : Type 0 where
  start : ℕ → Call
  app : List ℕ → Call

-- the receiver behind some calls
abbrev pub called : Receiver → List Call → Receiver
called r [] = r
called r (start n ∷ calls) = called (started r n) calls
called r (app _ ∷ calls) = called (counted r) calls

-- what the answer to a first number reports
abbrev pub start_told : Start → List Report
start_told starts.Plain = []
start_told (starts.Missing range) = missing range ∷ []
start_told starts.TooLarge = []

-- what the answers report, in order
abbrev pub reported : Receiver → List Call → List Report
reported r [] = []
reported r (start n ∷ calls) = start_told (start_of r n) ++ reported (started r n) calls
reported r (app payload ∷ calls) = told (seen r) payload ++ reported (counted r) calls

-- the calls for one datagram: those for its messages are left out where it is dropped
abbrev pub calls_behind : Start → List (List ℕ) → List Call
calls_behind starts.Plain payloads = map app payloads
calls_behind (starts.Missing _) payloads = map app payloads
calls_behind starts.TooLarge payloads = []

-- the calls for some datagrams, one behind another
abbrev pub calls_of : Receiver → List Contents → List Call
calls_of r [] = []
calls_of r (d ∷ ds) = (start d.first ∷ calls_behind (start_of r d.first) d.payloads) ++ calls_of (received r d) ds

-- a number is known to have been sent once a datagram that is taken begins above it, or a message that is not too large has it
abbrev pub IsKnown : Receiver → List Call → ℕ → Type 0
IsKnown r [] n = ⊥
IsKnown r (start first ∷ calls) n = ((may_begin r.most first ≡ true) × (n < first)) ⊎ IsKnown (started r first) calls n
IsKnown r (app _ ∷ calls) n = ((number r ≤ r.most) × (n ≡ number r)) ⊎ IsKnown (counted r) calls n

-- a number stands in a range, if there is one
abbrev pub IsIn : Option Range → ℕ → Type 0
IsIn None n = ⊥
IsIn (Some range) n = (range.from ≤ n) × (n < range.from + range.count)
