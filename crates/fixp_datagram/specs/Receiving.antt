-- The receiver of a recoverable or idempotent flow in datagrams (FIXP 1.1, recoverable and idempotent flow types; datagrams that
-- may be lost, repeated and reordered are this project's profile): what each datagram's start and each message makes of it.
use Rattle.std.specs.Prelude.{ℕ, ◌+◌, ◌-◌, ◌==◌, max, min, nat_lt, nat_le, ◌&&◌, Bool, if◌then◌else◌, ⊤, Option, Some, None, unwrap_or}
use Rattle.fixp_msgs.specs.declared.flow.Flow.{Flow}
use Rattle.fixp_msgs.specs.declared.flow.Flow.TheVariants as flows
use Rattle.fixp_msgs.specs.declared.numbering.Range.{Range}
use Rattle.flow_idem.specs.Applying.{jump_of}
use Rattle.fixp_datagram.specs.declared.receiver.Start.{Start}
use Rattle.fixp_datagram.specs.declared.receiver.Start.TheVariants as starts
use Rattle.fixp_datagram.specs.declared.receiver.DgSeen.{DgSeen}
use Rattle.fixp_datagram.specs.declared.receiver.DgSeen.TheVariants as messages

-- the flows that are carried in datagrams
abbrev pub IsCarried : Flow → Type 0
IsCarried flows.Recoverable = ⊤
IsCarried flows.Idempotent = ⊤
IsCarried flows.Unsequenced = ⊥
IsCarried flows.None = ⊥

-- the flow; the number that the inbox waits for; the greatest number that a message may have; one past the greatest number
-- that is known to have been sent; and the number of the datagram's next message, if a datagram was begun and not dropped
pub record Receiver : Type 0 where
  pub flow : Flow
  pub next : ℕ
  pub most : ℕ
  pub known : ℕ
  pub counting : Option ℕ

-- nothing came yet
abbrev pub fresh : Flow → ℕ → ℕ → Receiver
fresh flow next most = record { flow = flow; next = next; most = most; known = 0; counting = None }

-- the number that a datagram may begin with: that of a message, or one past the last
abbrev pub may_begin : ℕ → ℕ → Bool
may_begin most n = nat_le 1 n && nat_le n (most + 1)

-- the numbers that a datagram beginning with n jumps over, which an idempotent flow does not wait for
abbrev pub missed : Flow → ℕ → ℕ → Option Range
missed flows.Recoverable next n = None
missed flows.Idempotent next n = jump_of next n
missed flows.Unsequenced next n = None
missed flows.None next n = None

abbrev pub start_with : Option Range → Start
start_with None = starts.Plain
start_with (Some range) = starts.Missing range

-- the answer to a datagram's first number
abbrev pub start_of : Receiver → ℕ → Start
start_of r n = if may_begin r.most n then start_with (missed r.flow r.next n) else starts.TooLarge

-- the number waited for once the numbers jumped over are given up
abbrev pub next_behind : Flow → ℕ → ℕ → ℕ
next_behind flows.Recoverable next n = next
next_behind flows.Idempotent next n = max next n
next_behind flows.Unsequenced next n = next
next_behind flows.None next n = next

-- a datagram begins with n: the numbers below it are known to have been sent, and its first message has it. One that may not
-- begin so is dropped, and makes nothing known
abbrev pub started : Receiver → ℕ → Receiver
started r n =
    if may_begin r.most n
    then record r { next = next_behind r.flow r.next n; known = max r.known n; counting = Some n }
    else record r { counting = None }

-- the number of the next message
abbrev pub number : Receiver → ℕ
number r = unwrap_or r.counting 0

-- a message with the number n, where the inbox waits for `next`: too large above `most`, delivered where it is waited for, late
-- where it is there or given up, and else past a gap
abbrev pub seen_as : (most next n : ℕ) → DgSeen
seen_as most next n =
    if nat_lt most n then messages.TooLarge n
    else if n == next then messages.Deliver n
    else if nat_lt n next then messages.Late n
    else messages.Gap n

abbrev pub seen : Receiver → DgSeen
seen r = seen_as r.most r.next (number r)

-- behind a message: it is known to have been sent, the next one has the number behind it, and so has the one waited for where
-- it was delivered. One that is too large changes nothing
abbrev pub counted : Receiver → Receiver
counted r =
    if nat_lt r.most (number r) then r
    else record r {
      next = if number r == r.next then r.next + 1 else r.next;
      known = max r.known (number r + 1);
      counting = Some (number r + 1);
    }

-- how many numbers are asked for at once, at most
abbrev pub most_asked : ℕ
most_asked = 256

-- the numbers to be asked for: from the one waited for on, those that are known to have been sent, at most the first 256
abbrev pub asked : (next known : ℕ) → Option Range
asked next known = if nat_lt next known then Some (record { from = next; count = min most_asked (known - next) }) else None

-- only what a recoverable flow misses is sent again
abbrev pub ask_on : Flow → ℕ → ℕ → Option Range
ask_on flows.Recoverable next known = asked next known
ask_on flows.Idempotent next known = None
ask_on flows.Unsequenced next known = None
ask_on flows.None next known = None

abbrev pub ask : Receiver → Option Range
ask r = ask_on r.flow r.next r.known
