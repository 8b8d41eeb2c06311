-- The rows of the peer's flow, in Established: application messages, Sequence, and the retransmission that was asked for
-- (FIXP 1.1, "Message recovery" and the flow types; what is refused is this project's profile).
use Rattle.std.specs.Prelude.{ℕ, ◌+◌, ◌==◌, ◌&&◌, Bool, true, not, nat_lt, if◌then◌else◌, List, [], ◌∷◌, Option, Some, None, is_some, is_none, unwrap_or}
use Rattle.fixp_msgs.specs.declared.numbering.Range.{Range}
use Rattle.fixp_msgs.specs.Message.{finished_receiving}
use Rattle.flow_recover.specs.declared.numbers.Seen.{Seen}
use Rattle.flow_recover.specs.declared.numbers.Seen.TheVariants as seen_variants
use Rattle.flow_recover.specs.Receiving as receiver_is
use Rattle.flow_retrans.specs.declared.requester.BadStart.{BadStart}
use Rattle.flow_retrans.specs.Requests as request_is
use Rattle.fixp_shake.specs.declared.violation.Violation.{Violation}
use Rattle.fixp_shake.specs.declared.violation.Violation.TheVariants.{NumberTooLarge, BadRetransmission, AfterFinish, FlowNone, MissingNext}
use Rattle.fixp_shake.specs.Flows.{is_recoverable, is_sequenced, is_absent}
use Rattle.fixp_replies.specs.declared.act.Act.{Act}
use Rattle.fixp_replies.specs.declared.act.Act.TheVariants.{Nothing, Apply, PeerFinished}
use Rattle.fixp_replies.specs.declared.facts.Facts.{Facts}
use Rattle.fixp_replies.specs.declared.facts.PeerFinish.{PeerFinish}
use Rattle.fixp_replies.specs.declared.facts.PeerFinish.TheVariants as peer
use Rattle.fixp_replies.specs.Facts.{Around, receiving, requesting, firm, awaiting, live_number, message_number, peer_last, awaits_gap, gap_of, holding_too}
use Rattle.fixp_replies.specs.Outcomes.{Outcome, Row, row, goes_on, accepts, breaks, ignores, skip_of, told_skip}
use Rattle.fixp_replies.specs.Announcing.{Announced, announcement_rows, refuses}

-- a retransmission that does not match its request
abbrev pub bad_retransmission : Around → Facts → Option BadStart → Outcome
bad_retransmission x f None = ignores f
bad_retransmission x f (Some bad) = breaks x f (BadRetransmission bad.expected bad.found)

-- a message was counted, by the receiver and by the retransmission that it may belong to: the peer has started
abbrev pub counted : Facts → Facts
counted f = firm (requesting (receiving f (receiver_is.after_message f.connection.receiver)) (request_is.after_message f.connection.requester))

-- the message is held under this number, and the gap is asked for up to the least number held
abbrev pub holds : Around → Facts → ℕ → Outcome
holds x f n = record (accepts (holding_too x n) [] f) { holds = Some n }

-- a message of a recoverable flow: it is applied where it is the next one, and held where it is past that and within reach
abbrev pub taken_as : Around → Facts → Seen → Outcome
taken_as x f (seen_variants.Deliver n) = goes_on x (Apply n) [] (awaiting f (n + 1))
taken_as x f (seen_variants.Hold n) = holds x f n
taken_as x f (seen_variants.Gap n) = accepts x [] f
taken_as x f (seen_variants.Repeat n) = accepts x [] f

abbrev pub numbered_rows : Around → Facts → List Row
numbered_rows x f =
    row (is_some (request_is.message_fault f.connection.requester)) (bad_retransmission x f (request_is.message_fault f.connection.requester))
    ∷ row true (taken_as x (counted f) (receiver_is.seen f.connection.receiver))
    ∷ []

-- a live message behind the peer's finish
abbrev pub is_after_finish : Facts → Bool
is_after_finish f = is_some (peer_last f) && not (request_is.is_coming f.connection.requester)

-- An application message. One of a flow that is not recoverable is always the next
abbrev pub application_rows : Around → Facts → List Row
application_rows x f =
    row (is_absent x.config.peer_flow) (breaks x f (FlowNone 0))
    ∷ row (is_after_finish f) (breaks x f (AfterFinish (unwrap_or (peer_last f) 0) (message_number x f)))
    ∷ row (nat_lt x.most (message_number x f)) (breaks x f (NumberTooLarge (message_number x f)))
    ∷ row (not (is_recoverable x.config.peer_flow)) (goes_on x (Apply f.recorded.inbox_next) [] (awaiting f (f.recorded.inbox_next + 1)))
    ∷ numbered_rows x f

-- the peer's finish is recorded, if it was not, and answered
abbrev pub finish_act : Option ℕ → ℕ → Act
finish_act None last = PeerFinished last
finish_act (Some _) last = Nothing

abbrev pub peer_finished : Facts → PeerFinish → Option ℕ → Facts
peer_finished f finish recorded = record f { recorded = record f.recorded { peer_last = recorded }; connection = record f.connection { peer_finish = finish } }

abbrev pub answers_finish : Around → Facts → (last : ℕ) → Outcome
answers_finish x f last =
    goes_on x (finish_act f.recorded.peer_last last) (finished_receiving x.config.session ∷ [])
    (peer_finished f (peer.Exchanged last) (Some (unwrap_or f.recorded.peer_last last)))

-- the finish that waits for a gap is answered once the gap is filled
abbrev pub is_filled : Around → Facts → Bool
is_filled x f = is_some (awaits_gap f.connection.peer_finish) && is_none (gap_of x f)

-- behind the peer's finish no number but the one after its last is announced
abbrev pub is_past_finish : Around → Facts → (next : ℕ) → Bool
is_past_finish x f next = is_sequenced x.config.peer_flow && is_some (peer_last f) && not (next == unwrap_or (peer_last f) 0 + 1)

-- the announcement of a Sequence was taken
abbrev pub sequence_taken : Around → Announced → Outcome
sequence_taken x a =
    if is_filled x a.facts then answers_finish x a.facts (unwrap_or (awaits_gap a.facts.connection.peer_finish) 0)
    else goes_on x (skip_of a.skipped) (told_skip a.skipped) a.facts

-- Sequence, where its announcement stands: behind the peer's finish it announces nothing new
abbrev pub sequence_follows : Around → Facts → (next : ℕ) → Announced → Outcome
sequence_follows x f next a =
    if is_past_finish x f next then breaks x f (AfterFinish (unwrap_or (peer_last f) 0) next)
    else sequence_taken x a

-- it ends a retransmission that is whole, and is an announcement
abbrev pub sequence_rows : Around → Facts → (next : ℕ) → List Row
sequence_rows x f next =
    row (is_some (request_is.sequence_fault f.connection.requester)) (bad_retransmission x f (request_is.sequence_fault f.connection.requester))
    ∷ announcement_rows x (requesting f (request_is.after_sequence f.connection.requester)) 7 (Some next)
    (sequence_follows x (requesting f (request_is.after_sequence f.connection.requester)) next)

-- Retransmission: it answers the request that is open
abbrev pub restarted : Facts → (next count : ℕ) → Facts
restarted f next count = requesting (receiving f (receiver_is.retransmitted f.connection.receiver next)) (request_is.started f.connection.requester next count)

abbrev pub retransmission_rows : Around → Facts → (next count : ℕ) → List Row
retransmission_rows x f next count =
    row (is_some (request_is.start_fault (request_is.outstanding f.connection.requester) next count))
    (bad_retransmission x f (request_is.start_fault (request_is.outstanding f.connection.requester) next count))
    ∷ row true (accepts x [] (restarted f next count))
    ∷ []

-- RetransmitReject: an own request is never out of bounds
abbrev pub first_asked : Option Range → ℕ
first_asked None = 0
first_asked (Some range) = range.from

abbrev pub retransmit_reject_rows : Around → Facts → List Row
retransmit_reject_rows x f = row true (breaks x f (BadRetransmission (first_asked (request_is.outstanding f.connection.requester)) 0)) ∷ []

-- FinishedSending: the last number of a flow with numbers is the one before its live number, and the one that the finish had
-- before
abbrev pub finished_last : Around → Option ℕ → ℕ
finished_last x last = if is_sequenced x.config.peer_flow then unwrap_or last 0 else 0

abbrev pub is_last : Around → Facts → (last : ℕ) → Bool
is_last x f last = last + 1 == live_number x f && last == unwrap_or (peer_last f) last

abbrev pub finish_fault : Around → Facts → (last : Option ℕ) → Option Violation
finish_fault x f last =
    if is_absent x.config.peer_flow then Some (FlowNone 14)
    else if is_sequenced x.config.peer_flow && is_none last then Some (MissingNext 14)
    else if is_sequenced x.config.peer_flow && not (is_last x f (finished_last x last)) then Some (AfterFinish (finished_last x last) (live_number x f))
    else None

-- it is answered where no gap is left
abbrev pub finished : Around → Facts → (last : ℕ) → Outcome
finished x f last =
    if is_some (gap_of x f)
    then accepts x [] (peer_finished f (peer.Read last) f.recorded.peer_last)
    else answers_finish x f last

abbrev pub finished_sending_rows : Around → Facts → (last : Option ℕ) → List Row
finished_sending_rows x f last =
    row (is_some (finish_fault x f last)) (refuses x f (finish_fault x f last))
    ∷ row true (finished x f (finished_last x last))
    ∷ []
