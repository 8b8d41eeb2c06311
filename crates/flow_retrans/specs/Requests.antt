-- The requests of a recoverable receiver (FIXP 1.1, RetransmitRequest and Retransmission; one request at a time for at most
-- 256 messages is this project's profile).
use Rattle.std.specs.Prelude.{ℕ, ◌+◌, ◌-◌, ◌<◌, ◌==◌, ◌||◌, ◌^◌, ⊤, Bool, true, false, not, min, nat_lt, if◌then◌else◌, Option, Some, None}
use Rattle.fixp_msgs.specs.declared.numbering.Range.{Range}
use Rattle.flow_retrans.specs.declared.requester.BadStart.{BadStart}
use Rattle.flow_retrans.specs.declared.request.Request.{Request}
use Rattle.flow_retrans.specs.declared.request.Request.TheVariants.{Nothing, Asked, Coming}
use Rattle.flow_retrans.specs.Judging.{request_limit}

-- the range that was asked for and is not done, if there is one
abbrev pub outstanding : Request → Option Range
outstanding Nothing = None
outstanding (Asked range) = Some range
outstanding (Coming range next left) = Some range

-- a Retransmission answers the request: the messages that come now are its
abbrev pub is_coming : Request → Bool
is_coming Nothing = false
is_coming (Asked range) = false
is_coming (Coming range next left) = true

-- what is asked for of a gap: its first numbers, at most so many as one request may ask for
abbrev pub first_of_gap : Range → Range
first_of_gap gap = record { from = gap.from; count = min request_limit gap.count }

-- why a Retransmission from `next` of `count` messages does not answer the request: there is none, it begins elsewhere, or
-- it has no message or more than were asked for
abbrev pub start_fault : Option Range → ℕ → ℕ → Option BadStart
start_fault None next count = Some (record { expected = 0; found = next })
start_fault (Some asked) next count =
    if not (next == asked.from) then Some (record { expected = asked.from; found = next })
    else if count == 0 || nat_lt asked.count count then Some (record { expected = asked.count; found = count })
    else None

-- the retransmission has begun
abbrev pub started : Request → ℕ → ℕ → Request
started Nothing next count = Nothing
started (Asked range) next count = Coming range next count
started (Coming range _ _) next count = Coming range next count

-- why an application message does not belong to the retransmission: all of its messages came
abbrev pub message_fault : Request → Option BadStart
message_fault Nothing = None
message_fault (Asked range) = None
message_fault (Coming range next left) = if left == 0 then Some (record { expected = 0; found = next }) else None

-- one message of the retransmission came
abbrev pub after_message : Request → Request
after_message Nothing = Nothing
after_message (Asked range) = Asked range
after_message (Coming range next left) = Coming range (next + 1) (left - 1)

-- why a Sequence does not end the retransmission: some of its messages did not come
abbrev pub sequence_fault : Request → Option BadStart
sequence_fault Nothing = None
sequence_fault (Asked range) = None
sequence_fault (Coming range next left) = if left == 0 then None else Some (record { expected = next; found = 0 })

-- the request is done where its retransmission came; one of which nothing came stays
abbrev pub after_sequence : Request → Request
after_sequence Nothing = Nothing
after_sequence (Asked range) = Asked range
after_sequence (Coming range next left) = Nothing

-- the numbers of a request, and those that are still to come, end below 2^64
abbrev pub EndsInWord : Request → Type 0
EndsInWord Nothing = ⊤
EndsInWord (Asked range) = range.from + range.count < 2 ^ 64
EndsInWord (Coming range next left) = (range.from + range.count < 2 ^ 64) × (next + left < 2 ^ 64)
