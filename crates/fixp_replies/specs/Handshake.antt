-- The rows of the handshake (FIXP 1.1, "Session negotiation" and "Session establishment"; the order of the checks and the
-- codes are this project's profile).
use Rattle.std.specs.Prelude.{ℕ, ◌==◌, ◌&&◌, ◌||◌, Bool, true, not, min, max, nat_lt, if◌then◌else◌, List, [], ◌∷◌, ◌++◌, Option}
use Rattle.std.specs.Str.{bytes_eq}
use Rattle.fixp_msgs.specs.Flow.{flow_code}
use Rattle.fixp_msgs.specs.declared.messages.Expected.{Expected}
use Rattle.fixp_msgs.specs.declared.numbering.Range.{Range}
use Rattle.fixp_msgs.specs.Message.{negotiation_response, negotiation_reject, establishment_ack, establishment_reject}
use Rattle.fixp_shake.specs.declared.phase.Phase.TheVariants.{Negotiating, Establishing, Established}
use Rattle.fixp_shake.specs.declared.violation.Violation.TheVariants.{OtherSession}
use Rattle.fixp_shake.specs.Phases.{is_idle, is_established}
use Rattle.fixp_replies.specs.declared.act.Act.TheVariants.{Nothing, Negotiated}
use Rattle.fixp_replies.specs.declared.act.Ending.TheVariants as endings
use Rattle.fixp_replies.specs.declared.facts.Facts.{Facts}
use Rattle.fixp_replies.specs.Facts.{Around, is_initiator, is_own, in_phase, negotiated, announced_number}
use Rattle.fixp_replies.specs.Outcomes.{Outcome, Row, row, goes_on, rejects, ends_with, breaks, skip_of, told_skip, opening_negotiate, opening_establish}
use Rattle.fixp_replies.specs.Announcing.{Announced, announcement_rows}
use Rattle.fixp_replies.specs.Expecting.{answers_next, returned, softened, told_return}

-- an acceptor waits for its client to open the connection
abbrev pub awaits_client : Around → Facts → Bool
awaits_client x f = not (is_initiator x.config.role) && is_idle f.connection.phase

abbrev pub serves_client : Around → Facts → Bool
serves_client x f = not (is_initiator x.config.role) && is_established f.connection.phase

-- the reject of a Negotiate, of the session and with the timestamp that it names
abbrev pub rejects_negotiate : Facts → (id : List ℕ) (timestamp code : ℕ) → Outcome
rejects_negotiate f id timestamp code = rejects (negotiation_reject id timestamp code [] ∷ []) f

-- Negotiate, at an acceptor that waits for its client: 1 unspecified, 2 credentials, 3 flow type not supported, 4 duplicate id
abbrev pub negotiate_rows : Around → Facts → (id : List ℕ) (timestamp flow : ℕ) (credentials : List ℕ) → List Row
negotiate_rows x f id timestamp flow credentials =
    row (not (is_own x id)) (rejects_negotiate f id timestamp 1)
    ∷ row (not (bytes_eq credentials x.config.credentials)) (rejects_negotiate f id timestamp 2)
    ∷ row (not (flow == flow_code x.config.peer_flow)) (rejects_negotiate f id timestamp 3)
    ∷ row f.recorded.negotiated (rejects_negotiate f id timestamp 4)
    ∷ row true (goes_on x Negotiated (negotiation_response x.config.session timestamp (flow_code x.config.own_flow) [] ∷ []) (negotiated f))
    ∷ []

-- the reject of an Establish
abbrev pub rejects_establish : Facts → (id : List ℕ) (timestamp code : ℕ) → Outcome
rejects_establish f id timestamp code = rejects (establishment_reject id timestamp code [] ∷ []) f

-- the handshake is done: messages go both ways, and the peer's interval is this
abbrev pub established : Facts → (interval : ℕ) → Facts
established f interval = record f { connection = record f.connection { phase = Established; peer_interval = interval } }

-- the acknowledgement of an Establish, and behind it what was skipped
abbrev pub acknowledged_by : Around → (timestamp keepalive : ℕ) → Expected → Option Range → Facts → Outcome
acknowledged_by x timestamp keepalive expected skipped f =
    goes_on x (skip_of skipped)
    (establishment_ack x.config.session timestamp x.config.keepalive (announced_number x f) (answers_next x expected f) ∷ told_skip skipped)
    (established (softened x expected f) keepalive)

-- the number that it tells is taken before the acknowledgement announces the own one
abbrev pub acknowledges : Around → (timestamp keepalive : ℕ) → Expected → Announced → Outcome
acknowledges x timestamp keepalive expected a = acknowledged_by x timestamp keepalive expected a.skipped (returned x a.facts expected)

-- Establish, at an acceptor that waits for its client: 2 unnegotiated, 5 keepalive interval, 6 credentials, and then its
-- announcement
abbrev pub establish_rows : Around → Facts → (id : List ℕ) (timestamp keepalive : ℕ) (next : Option ℕ) (expected : Expected) (credentials : List ℕ) → List Row
establish_rows x f id timestamp keepalive next expected credentials =
    row (not (is_own x id) || not f.recorded.negotiated) (rejects_establish f id timestamp 2)
    ∷ row (nat_lt keepalive 100 || nat_lt 60000 keepalive) (rejects_establish f id timestamp 5)
    ∷ row (not (bytes_eq credentials x.config.credentials)) (rejects_establish f id timestamp 6)
    ∷ announcement_rows x f 4 next (acknowledges x timestamp keepalive expected)

-- a further Establish, once it is established: 2 for another session, else 3 already established
abbrev pub established_again_rows : Around → Facts → (id : List ℕ) (timestamp : ℕ) → List Row
established_again_rows x f id timestamp =
    row (not (is_own x id)) (rejects_establish f id timestamp 2)
    ∷ row true (rejects_establish f id timestamp 3)
    ∷ []

abbrev pub establish_rows_in : Around → Facts → (id : List ℕ) (timestamp keepalive : ℕ) (next : Option ℕ) (expected : Expected) (credentials : List ℕ)
    → List Row
establish_rows_in x f id timestamp keepalive next expected credentials =
    if awaits_client x f then establish_rows x f id timestamp keepalive next expected credentials
    else if serves_client x f then established_again_rows x f id timestamp
    else []

-- an initiator knows that the session is negotiated, and establishes the connection
abbrev pub shaken : Around → Facts → Outcome
shaken x f = goes_on x (if f.recorded.negotiated then Nothing else Negotiated) (opening_establish x f ∷ []) (in_phase (negotiated f) Establishing)

-- the handshake was rejected for good
abbrev pub rejected : Around → Facts → (template code : ℕ) → Outcome
rejected x f template code = ends_with x f [] (endings.Rejected template code)

-- NegotiationResponse, where it is awaited: the peer's flow is the one configured
abbrev pub negotiation_response_rows : Around → Facts → (flow : ℕ) → List Row
negotiation_response_rows x f flow =
    row (not (flow == flow_code x.config.peer_flow)) (breaks x f (OtherSession 2))
    ∷ row true (shaken x f)
    ∷ []

-- NegotiationReject, where a response is awaited: code 4 tells that the session was negotiated before
abbrev pub negotiation_reject_rows : Around → Facts → (code : ℕ) → List Row
negotiation_reject_rows x f code =
    row (code == 4) (shaken x f)
    ∷ row true (rejected x f 3 code)
    ∷ []

-- EstablishmentAck, where it is awaited: the number that it tells is taken. An interval out of range is taken as the nearest one
-- in it
abbrev pub reached : Around → (keepalive : ℕ) → Expected → Announced → Outcome
reached x keepalive expected a =
    goes_on x (skip_of a.skipped) (told_skip a.skipped ++ told_return x a.facts expected)
    (established (returned x a.facts expected) (min 60000 (max 100 keepalive)))

abbrev pub establishment_ack_rows : Around → Facts → (keepalive : ℕ) (next : Option ℕ) (expected : Expected) → List Row
establishment_ack_rows x f keepalive next expected = announcement_rows x f 5 next (reached x keepalive expected)

-- EstablishmentReject, where an acknowledgement is awaited: code 2 tells that the session is to be negotiated first
abbrev pub establishment_reject_rows : Around → Facts → (code : ℕ) → List Row
establishment_reject_rows x f code =
    row (code == 2) (goes_on x Nothing (opening_negotiate x ∷ []) (in_phase f Negotiating))
    ∷ row true (rejected x f 6 code)
    ∷ []
