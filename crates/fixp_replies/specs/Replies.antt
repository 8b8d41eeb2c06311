-- The reply table: what an end does about each message (FIXP 1.1, "Session lifecycle"; where the standard leaves a choice, and
-- for every code, this project's profile).
use Rattle.std.specs.Prelude.{ℕ, ◌&&◌, Bool, true, false, not, if◌then◌else◌, List, [], ◌∷◌, Option, Some, None}
use Rattle.fixp_msgs.specs.Message.{Message, negotiate, negotiation_response, negotiation_reject, establish, establishment_ack, establishment_reject, sequence, unsequenced_heartbeat, retransmit_request, retransmission, retransmit_reject, applied, not_applied, finished_sending, finished_receiving, terminate}
use Rattle.fixp_shake.specs.declared.violation.Violation.{Violation}
use Rattle.fixp_shake.specs.declared.violation.Violation.TheVariants.{BadFrame, UnknownTemplate, NotInPhase, OtherSession}
use Rattle.fixp_shake.specs.Phases.{is_negotiating, is_establishing, is_established, is_closing}
use Rattle.fixp_shake.specs.Flows.{is_idempotent}
use Rattle.fixp_replies.specs.declared.act.Act.TheVariants.{Told}
use Rattle.fixp_replies.specs.declared.act.Ending.TheVariants as endings
use Rattle.fixp_replies.specs.declared.facts.Facts.{Facts}
use Rattle.fixp_replies.specs.Incoming.{Incoming, application, session, wrong_order, too_short, unknown}
use Rattle.fixp_replies.specs.Facts.{Around, is_own}
use Rattle.fixp_replies.specs.Outcomes.{Outcome, Row, row, first_row, within, goes_on, accepts, ignores, ends, breaks, not_in_phase}
use Rattle.fixp_replies.specs.Handshake.{awaits_client, negotiate_rows, negotiation_response_rows, negotiation_reject_rows, establish_rows_in, establishment_ack_rows, establishment_reject_rows}
use Rattle.fixp_replies.specs.Flowing.{application_rows, sequence_rows, retransmission_rows, retransmit_reject_rows, finished_sending_rows}
use Rattle.fixp_replies.specs.Serving.{retransmit_request_rows, finished_receiving_rows}

-- the template of a message; 0 stands for an application message, and for what is none
abbrev pub template_of_message : Message → ℕ
template_of_message (negotiate _ _ _ _) = 1
template_of_message (negotiation_response _ _ _ _) = 2
template_of_message (negotiation_reject _ _ _ _) = 3
template_of_message (establish _ _ _ _ _ _) = 4
template_of_message (establishment_ack _ _ _ _ _) = 5
template_of_message (establishment_reject _ _ _ _) = 6
template_of_message (sequence _) = 7
template_of_message unsequenced_heartbeat = 8
template_of_message (retransmit_request _ _ _ _) = 9
template_of_message (retransmission _ _ _ _) = 10
template_of_message (retransmit_reject _ _ _ _) = 11
template_of_message (applied _ _) = 12
template_of_message (not_applied _ _) = 13
template_of_message (finished_sending _ _) = 14
template_of_message (finished_receiving _) = 15
template_of_message (terminate _ _ _) = 16

abbrev pub template_of : Incoming → ℕ
template_of (application payload) = 0
template_of (session m) = template_of_message m
template_of wrong_order = 0
template_of too_short = 0
template_of (unknown template) = template

-- a message that names another session breaks a rule, but for those whose rows answer it
abbrev pub of_session : Around → Facts → (template : ℕ) (id : List ℕ) → List Row → List Row
of_session x f template id rows = row (not (is_own x id)) (breaks x f (OtherSession template)) ∷ rows

-- the rule that such a message breaks before its rows are looked at: it is another session's, or its phase does not await it
abbrev pub misplaced : Around → Facts → (template : ℕ) (id : List ℕ) → (awaited : Bool) → Option Violation
misplaced x f template id awaited =
    if not (is_own x id) then Some (OtherSession template)
    else if not awaited then Some (NotInPhase template f.connection.phase)
    else None

-- the rows of each message, in the order in which they are looked at; what none of them takes is out of phase
abbrev pub rows_of : Around → Facts → Incoming → List Row
rows_of x f (application payload) = within (is_established f.connection.phase) (application_rows x f)
rows_of x f (session (negotiate id timestamp flow credentials)) = within (awaits_client x f) (negotiate_rows x f id timestamp flow credentials)
rows_of x f (session (negotiation_response id timestamp flow credentials)) =
    of_session x f 2 id (within (is_negotiating f.connection.phase) (negotiation_response_rows x f flow))
rows_of x f (session (negotiation_reject id timestamp code reason)) =
    of_session x f 3 id (within (is_negotiating f.connection.phase) (negotiation_reject_rows x f code))
rows_of x f (session (establish id timestamp keepalive next expected credentials)) = establish_rows_in x f id timestamp keepalive next expected credentials
rows_of x f (session (establishment_ack id timestamp keepalive next expected)) =
    of_session x f 5 id (within (is_establishing f.connection.phase) (establishment_ack_rows x f keepalive next expected))
rows_of x f (session (establishment_reject id timestamp code reason)) =
    of_session x f 6 id (within (is_establishing f.connection.phase) (establishment_reject_rows x f code))
rows_of x f (session (sequence next)) = within (is_established f.connection.phase) (sequence_rows x f next)
rows_of x f (session unsequenced_heartbeat) = row true (accepts x [] f) ∷ []
rows_of x f (session (retransmit_request id timestamp first count)) =
    within (is_established f.connection.phase) (retransmit_request_rows x f id timestamp first count)
rows_of x f (session (retransmission id next timestamp count)) =
    of_session x f 10 id (within (is_established f.connection.phase) (retransmission_rows x f next count))
rows_of x f (session (retransmit_reject id timestamp code reason)) =
    of_session x f 11 id (within (is_established f.connection.phase) (retransmit_reject_rows x f))
rows_of x f (session (applied first count)) = row true (accepts x [] f) ∷ []
rows_of x f (session (not_applied first count)) = row (is_idempotent x.config.own_flow) (goes_on x (Told first count) [] f) ∷ row true (accepts x [] f) ∷ []
rows_of x f (session (finished_sending id last)) = of_session x f 14 id (within (is_established f.connection.phase) (finished_sending_rows x f last))
rows_of x f (session (finished_receiving id)) = of_session x f 15 id (within (is_established f.connection.phase) (finished_receiving_rows x f))
rows_of x f (session (terminate id code reason)) = of_session x f 16 id (row true (ends x f 1 (endings.PeerTerminated code)) ∷ [])
rows_of x f wrong_order = row true (breaks x f (BadFrame x.at)) ∷ []
rows_of x f too_short = row true (breaks x f (BadFrame x.at)) ∷ []
rows_of x f (unknown template) = row true (breaks x f (UnknownTemplate template)) ∷ []

-- the outcome of the first row that applies; where none does, the message is out of phase
abbrev pub answer_of : Around → Facts → Incoming → Outcome
answer_of x f incoming = first_row (not_in_phase x f (template_of incoming)) (rows_of x f incoming)

-- a Terminate of this session
abbrev pub terminates : Around → Incoming → Bool
terminates x (session (terminate id code reason)) = is_own x id
terminates x _ = false

-- the reply to an incoming message. An end that has written its Terminate looks at nothing but the peer's
abbrev pub reply_of : Around → Facts → Incoming → Outcome
reply_of x f incoming =
    if is_closing f.connection.phase && not (terminates x incoming)
    then ignores f
    else answer_of x f incoming

-- the reply to bytes that are no frame, in any phase
abbrev pub reply_to_bad_frame : Around → Facts → Outcome
reply_to_bad_frame x f = breaks x f (BadFrame x.at)
