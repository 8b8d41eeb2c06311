-- The answer to a request for a retransmission (FIXP 1.1, RetransmitRequest; the order of the codes and the limit of 256
-- messages are this project's profile).
use Rattle.std.specs.Prelude.{ℕ, ◌+◌, ◌==◌, ◌||◌, Bool, not, nat_lt, if◌then◌else◌, Result, Ok, Err}
use Rattle.fixp_msgs.specs.declared.numbering.Range.{Range}
use Rattle.flow_retrans.specs.declared.judging.RetransmitCode.{RetransmitCode}
use Rattle.flow_retrans.specs.declared.judging.RetransmitCode.TheVariants.{OutOfRange, InvalidSession, RequestLimitExceeded}

-- how many messages one request may ask for
abbrev pub request_limit : ℕ
request_limit = 256

-- the number of a reject (this project's profile)
abbrev pub code_of : RetransmitCode → ℕ
code_of OutOfRange = 1
code_of InvalidSession = 2
code_of RequestLimitExceeded = 3

-- no messages of this range can be sent again: the flow is not recoverable, the range is empty or begins before number 1,
-- or its last number is past the last one sent
abbrev pub is_outside : Bool → ℕ → ℕ → ℕ → Bool
is_outside recoverable from count sent = not recoverable || from == 0 || count == 0 || nat_lt (sent + 1) (from + count)

-- the range that is sent again, or why none is
abbrev pub judged : (own recoverable : Bool) (from count sent : ℕ) → Result Range RetransmitCode
judged own recoverable from count sent =
    if not own then Err InvalidSession
    else if is_outside recoverable from count sent then Err OutOfRange
    else if nat_lt request_limit count then Err RequestLimitExceeded
    else Ok (record { from = from; count = count })
