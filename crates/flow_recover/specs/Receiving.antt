-- The receiver of a recoverable flow (FIXP 1.1, recoverable flow type and retransmission): what is expected, and what each
-- announcement and each message makes of it.
use Rattle.std.specs.Prelude.{ℕ, ◌+◌, ◌-◌, ◌==◌, max, nat_lt, nat_le, if◌then◌else◌, Option, Some, None, unwrap_or}
use Rattle.fixp_msgs.specs.declared.numbering.Range.{Range}
use Rattle.flow_recover.specs.declared.numbers.Seen.{Seen}
use Rattle.flow_recover.specs.declared.numbers.Seen.TheVariants.{Deliver, Hold, Gap, Repeat}

-- the number that the inbox waits for, the live number, which the next live message has, and inside a retransmission the
-- number of its next message
pub record Receiving : Type 0 where
  pub next : ℕ
  pub live : ℕ
  pub again : Option ℕ

-- a connection begins: the next live message is the one that the inbox waits for, as long as nothing else is announced
abbrev pub fresh : ℕ → Receiving
fresh next = record { next = next; live = next; again = None }

-- the number expected of an announcement: one below it goes back
abbrev pub expected : Receiving → ℕ
expected r = max r.next r.live

-- an announcement gives the live number, and ends a retransmission
abbrev pub announced : Receiving → ℕ → Receiving
announced r n = record r { live = n; again = None }

-- a retransmission gives the number of its first message; the live number stays
abbrev pub retransmitted : Receiving → ℕ → Receiving
retransmitted r n = record r { again = Some n }

-- the number of the next message
abbrev pub number : Receiving → ℕ
number r = unwrap_or r.again r.live

-- how far past the number waited for a message may lie, to be held
abbrev pub reach : ℕ
reach = 256

-- a message with the number n, where the inbox waits for `next`: it is delivered where it is that one, there already where it
-- is below, held where it is past it and within reach, and else lost behind the gap
abbrev pub seen_as : ℕ → ℕ → Seen
seen_as next n = if n == next then Deliver n else if nat_lt n next then Repeat n else if nat_le n (next + reach) then Hold n else Gap n

abbrev pub seen : Receiving → Seen
seen r = seen_as r.next (number r)

-- the number used grows by one
abbrev pub counted : Receiving → Option ℕ → Receiving
counted r None = record r { live = r.live + 1 }
counted r (Some n) = record r { again = Some (n + 1) }

-- behind a message: the inbox waits for the next number where this message was delivered
abbrev pub after_message : Receiving → Receiving
after_message r = record (counted r r.again) { next = if number r == r.next then r.next + 1 else r.next }

-- the message that the inbox waits for was applied, and came earlier
abbrev pub past : Receiving → Receiving
past r = record r { next = r.next + 1 }

-- where a gap ends: before the least number held, or before the live number where none is held
abbrev pub gap_end : Option ℕ → ℕ → ℕ
gap_end least live = unwrap_or least live

-- the numbers that are missing: from the one that the inbox waits for up to that end
abbrev pub gap : Option ℕ → Receiving → Option Range
gap least r =
    if nat_lt r.next (gap_end least r.live) then Some (record { from = r.next; count = gap_end least r.live - r.next }) else None
