-- The rows of the own flow, in Established: requests for what is to be sent again, and the answer to the own finish (FIXP 1.1,
-- RetransmitRequest and FinishedReceiving; that one range is served at a time is this project's profile).
use Rattle.std.specs.Prelude.{ℕ, true, List, [], ◌∷◌, Some, is_some, Result, Ok, Err}
use Rattle.fixp_msgs.specs.declared.numbering.Range.{Range}
use Rattle.fixp_msgs.specs.Message.{retransmission, retransmit_reject}
use Rattle.flow_retrans.specs.declared.judging.RetransmitCode.{RetransmitCode}
use Rattle.flow_retrans.specs.Judging.{judged, code_of}
use Rattle.fixp_shake.specs.declared.violation.Violation.TheVariants.{NotInPhase}
use Rattle.fixp_shake.specs.Flows.{is_recoverable}
use Rattle.fixp_replies.specs.declared.act.Ending.TheVariants as endings
use Rattle.fixp_replies.specs.declared.facts.Facts.{Facts}
use Rattle.fixp_replies.specs.declared.facts.OwnFinish.{OwnFinish}
use Rattle.fixp_replies.specs.declared.facts.OwnFinish.TheVariants as own
use Rattle.fixp_replies.specs.Facts.{Around, is_own, serves, is_told}
use Rattle.fixp_replies.specs.Outcomes.{Outcome, Row, row, accepts, rejects, ends}

-- a range is sent again: Retransmission now, its messages and the Sequence behind them later. A reject carries the request's
-- session identifier and timestamp
abbrev pub request_answered : Around → Facts → (id : List ℕ) (timestamp : ℕ) → Result Range RetransmitCode → Outcome
request_answered x f id timestamp (Ok range) = accepts x (retransmission x.config.session range.from timestamp range.count ∷ []) (serves f (Some range))
request_answered x f id timestamp (Err code) = rejects (retransmit_reject id timestamp (code_of code) [] ∷ []) f

-- RetransmitRequest: a second one while a range is served is refused, whatever it asks for: code 4, re-request in progress
abbrev pub retransmit_request_rows : Around → Facts → (id : List ℕ) (timestamp first count : ℕ) → List Row
retransmit_request_rows x f id timestamp first count =
    row (is_some f.connection.serving) (ends x f 4 (endings.Violation (NotInPhase 9 f.connection.phase)))
    ∷ row true (request_answered x f id timestamp (judged (is_own x id) (is_recoverable x.config.own_flow) first count f.recorded.sent))
    ∷ []

-- how far the own finish has come
abbrev pub own_finishing : Facts → OwnFinish → Facts
own_finishing f finish = record f { connection = record f.connection { own_finish = finish } }

-- FinishedReceiving: it answers this connection's FinishedSending, once
abbrev pub finished_receiving_rows : Around → Facts → List Row
finished_receiving_rows x f = row (is_told f.connection.own_finish) (accepts x [] (own_finishing f own.Exchanged)) ∷ []
