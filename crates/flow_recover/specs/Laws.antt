-- The laws of a receiver that holds nothing, in the words of the session model. What one that holds messages delivers is said in
-- `flow_window`.
use Rattle.std.specs.Prelude.{◌≡◌, ℕ, List, [], ◌∷◌, ◌++◌, map, Some}
use Rattle.session_model.specs.Inbox.{Numbered, InboxRecord, next_number}
use Rattle.session_model.specs.Inbox.InboxRecord.{apply}
use Rattle.session_model.specs.Events.{Announcer, Event, in_flow, numbered}
use Rattle.session_model.specs.Growth.{chain, GrownRecoverable}
use Rattle.flow_recover.specs.declared.numbers.Seen.{Seen}
use Rattle.flow_recover.specs.declared.numbers.Seen.TheVariants.{Deliver, Hold, Gap, Repeat}
use Rattle.flow_recover.specs.Receiving.{Receiving, announced, retransmitted, number, seen, after_message}

-- what comes on a recoverable flow: an announcement, a retransmission with the number of its first message, or an
-- application message with its payload
pub data Arrival : Type 0 where
  announcement : Announcer → ℕ → Arrival
  retransmission : ℕ → Arrival
  message : List ℕ → Arrival

-- as an event of the session model
abbrev pub event_of : Arrival → Event
event_of (announcement who n) = Event.announce who (Some n)
event_of (retransmission n) = Event.announce in_flow (Some n)
event_of (message payload) = Event.message payload

-- the message that is delivered as it comes with this payload, if it is
abbrev pub given : Seen → List ℕ → List Numbered
given (Deliver n) payload = record { number = n; payload = payload } ∷ []
given (Hold n) payload = []
given (Gap n) payload = []
given (Repeat n) payload = []

-- what a receiver delivers as it comes, in order
abbrev pub delivered : Receiving → List Arrival → List Numbered
delivered r [] = []
delivered r (announcement who n ∷ later) = delivered (announced r n) later
delivered r (retransmission n ∷ later) = delivered (retransmitted r n) later
delivered r (message payload ∷ later) = given (seen r) payload ++ delivered (after_message r) later

-- over any announcements and messages, what is delivered is the chain of the numbered messages: the first that has the
-- number waited for, the first behind it that has the number after that, and so on as long as there is one
abbrev pub DeliversChain : Type 0
DeliversChain = (r : Receiving) (arrivals : List Arrival) → delivered r arrivals ≡ chain r.next (numbered (Some (number r)) (map event_of arrivals))

-- an inbox that waits for the receiver's next number, and then applies what is delivered, is grown as a recoverable one
abbrev pub GrowsRecoverable : Type 0
GrowsRecoverable = (r : Receiving) (arrivals : List Arrival) (inbox : List InboxRecord) → next_number inbox ≡ r.next
    → GrownRecoverable (Some (number r)) (map event_of arrivals) inbox (inbox ++ map apply (delivered r arrivals))
