-- The checks of a handshake in their order (FIXP 1.1, session negotiation and establishment; the order of the checks and the
-- numbers of the codes are this project's profile).
use Rattle.std.specs.Prelude.{ℕ, ◌==◌, ◌||◌, Bool, not, nat_lt, if◌then◌else◌, List, Option, Some, None}
use Rattle.std.specs.Str.{bytes_eq}
use Rattle.fixp_msgs.specs.Flow.{flow_code}
use Rattle.fixp_msgs.specs.Message.{Message, negotiate, negotiation_response, negotiation_reject, establish, establishment_ack, establishment_reject, sequence, unsequenced_heartbeat, retransmit_request, retransmission, retransmit_reject, applied, not_applied, finished_sending, finished_receiving, terminate}
use Rattle.fixp_shake.specs.declared.config.EndConfig.{EndConfig}
use Rattle.fixp_shake.specs.declared.violation.Violation.TheVariants.{OtherSession}
use Rattle.fixp_shake.specs.declared.judging.NegotiationCode.{NegotiationCode}
use Rattle.fixp_shake.specs.declared.judging.NegotiationCode.TheVariants as negotiation
use Rattle.fixp_shake.specs.declared.judging.NegotiateAnswer.{NegotiateAnswer}
use Rattle.fixp_shake.specs.declared.judging.NegotiateAnswer.TheVariants as to_negotiate
use Rattle.fixp_shake.specs.declared.judging.EstablishmentCode.{EstablishmentCode}
use Rattle.fixp_shake.specs.declared.judging.EstablishmentCode.TheVariants as establishment
use Rattle.fixp_shake.specs.declared.judging.EstablishAnswer.{EstablishAnswer}
use Rattle.fixp_shake.specs.declared.judging.EstablishAnswer.TheVariants as to_establish
use Rattle.fixp_shake.specs.declared.replying.ShakeStep.{ShakeStep}
use Rattle.fixp_shake.specs.declared.replying.ShakeStep.TheVariants as steps

-- the numbers of the rejects
abbrev pub negotiation_code : NegotiationCode → ℕ
negotiation_code negotiation.Unspecified = 1
negotiation_code negotiation.Credentials = 2
negotiation_code negotiation.FlowTypeNotSupported = 3
negotiation_code negotiation.DuplicateId = 4

abbrev pub establishment_code : EstablishmentCode → ℕ
establishment_code establishment.Unnegotiated = 2
establishment_code establishment.AlreadyEstablished = 3
establishment_code establishment.KeepaliveInterval = 5
establishment_code establishment.Credentials = 6

-- the answer to a Negotiate with these fields, where the session is negotiated already or not
abbrev pub negotiate_answer : EndConfig → (negotiated : Bool) → (id : List ℕ) (flow : ℕ) (credentials : List ℕ) → NegotiateAnswer
negotiate_answer cfg negotiated id flow credentials =
    if not (bytes_eq id cfg.session) then to_negotiate.Reject negotiation.Unspecified
    else if not (bytes_eq credentials cfg.credentials) then to_negotiate.Reject negotiation.Credentials
    else if not (flow == flow_code cfg.peer_flow) then to_negotiate.Reject negotiation.FlowTypeNotSupported
    else if negotiated then to_negotiate.Reject negotiation.DuplicateId
    else to_negotiate.Respond

-- an interval that a peer may not have
abbrev pub is_odd_interval : ℕ → Bool
is_odd_interval keepalive = nat_lt keepalive 100 || nat_lt 60000 keepalive

-- the answer to an Establish with these fields, where the session is negotiated or not, and the connection established already
-- or not; what it announces is looked at behind these checks
abbrev pub establish_answer : EndConfig → (negotiated established : Bool) → (id : List ℕ) (keepalive : ℕ) (credentials : List ℕ) → EstablishAnswer
establish_answer cfg negotiated established id keepalive credentials =
    if not (bytes_eq id cfg.session) then to_establish.Reject establishment.Unnegotiated
    else if established then to_establish.Reject establishment.AlreadyEstablished
    else if not negotiated then to_establish.Reject establishment.Unnegotiated
    else if is_odd_interval keepalive then to_establish.Reject establishment.KeepaliveInterval
    else if not (bytes_eq credentials cfg.credentials) then to_establish.Reject establishment.Credentials
    else to_establish.Ack

-- a reply of the own session counts, and one of another does not
abbrev pub of_session : EndConfig → List ℕ → ShakeStep → Option ShakeStep
of_session cfg id step = if bytes_eq id cfg.session then Some step else None

-- a session that is negotiated already is as good as one that is negotiated now
abbrev pub after_negotiation_reject : (code : ℕ) → ShakeStep
after_negotiation_reject code = if code == negotiation_code negotiation.DuplicateId then steps.Establish else steps.Rejected 3 code

-- a session of which the acceptor knows no negotiation is to be negotiated anew
abbrev pub after_establishment_reject : (code : ℕ) → ShakeStep
after_establishment_reject code = if code == establishment_code establishment.Unnegotiated then steps.Negotiate else steps.Rejected 6 code

-- what an initiator does at a reply to its Negotiate or Establish; other messages are none
abbrev pub reply_step : EndConfig → Message → Option ShakeStep
reply_step cfg (negotiation_response id timestamp flow credentials) =
    of_session cfg id (if flow == flow_code cfg.peer_flow then steps.Establish else steps.Violate (OtherSession 2))
reply_step cfg (negotiation_reject id timestamp code reason) = of_session cfg id (after_negotiation_reject code)
reply_step cfg (establishment_ack id timestamp keepalive next expected) = of_session cfg id steps.Established
reply_step cfg (establishment_reject id timestamp code reason) = of_session cfg id (after_establishment_reject code)
reply_step cfg (negotiate id timestamp flow credentials) = None
reply_step cfg (establish id timestamp keepalive next expected credentials) = None
reply_step cfg (sequence next) = None
reply_step cfg unsequenced_heartbeat = None
reply_step cfg (retransmit_request id timestamp first count) = None
reply_step cfg (retransmission id next timestamp count) = None
reply_step cfg (retransmit_reject id timestamp code reason) = None
reply_step cfg (applied first count) = None
reply_step cfg (not_applied first count) = None
reply_step cfg (finished_sending id last) = None
reply_step cfg (finished_receiving id) = None
reply_step cfg (terminate id code reason) = None
