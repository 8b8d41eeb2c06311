-- What the two ends know of a session's negotiation (FIXP 1.1, "Session negotiation"): an initiator learns it from its acceptor, which tells
-- it only where it is so; and an acceptor rejects no Establish that rests on it.
use Rattle.std.specs.Prelude.{◌≡◌, ⊤, ◌≤◌, ◌⊎◌, true}
use Rattle.std.specs.List.{AllByRecursion}
use Rattle.fixp_msgs.specs.Message.{Message, negotiation_response, negotiation_reject, establish, establishment_reject}
use Rattle.fixp_replies.specs.declared.facts.Facts.{Facts}
use Rattle.fixp_replies.specs.Incoming.{Incoming, session}
use Rattle.fixp_replies.specs.Facts.{Around, is_initiator, is_own}
use Rattle.fixp_replies.specs.Handshake.{awaits_client}
use Rattle.fixp_replies.specs.Outcomes.{Outcome}
use Rattle.fixp_replies.specs.Replies.{reply_of}

-- a message that rests on the session's being negotiated: an Establish; and one that tells an initiator so
abbrev pub RestsOn : Message → Type 0
RestsOn (establish id timestamp keepalive next expected credentials) = ⊤
RestsOn m = ⊥

abbrev pub Vouches : Message → Type 0
Vouches (negotiation_response id timestamp flow credentials) = ⊤
Vouches (negotiation_reject id timestamp code reason) = code ≡ 4
Vouches m = ⊥

abbrev pub VouchedIn : Incoming → Type 0
VouchedIn (session m) = Vouches m
VouchedIn i = ⊥

-- a message is no EstablishmentReject
abbrev pub NoReject : Message → Type 0
NoReject (establishment_reject id timestamp code reason) = ⊥
NoReject m = ⊤

-- an Establish that an acceptor takes: it waits for its client, knows that the session is negotiated, and the message is of its session,
-- with an interval in range and its credentials
abbrev pub IsGood : Around → Facts → Incoming → Type 0
IsGood x f (session (establish id timestamp keepalive next expected credentials)) =
    (awaits_client x f ≡ true) × (f.recorded.negotiated ≡ true) × (is_own x id ≡ true) × ((100 ≤ keepalive) × (keepalive ≤ 60000)) × (credentials ≡ x.config.credentials)
IsGood x f i = ⊤

-- what is said where an end then knows it, or does not
pub record Says (g : Facts) (m : Message) : Type 0 where
  pub rests : RestsOn m → g.recorded.negotiated ≡ true
  pub vouches : Vouches m → g.recorded.negotiated ≡ true

-- what is known stays known, an initiator learns it where its acceptor vouches for it, and no more is said than is known
pub record Negotiates (x : Around) (f : Facts) (i : Incoming) (o : Outcome) : Type 0 where
  pub grows : f.recorded.negotiated ≡ true → o.next.recorded.negotiated ≡ true
  pub learns : is_initiator x.config.role ≡ true → o.next.recorded.negotiated ≡ true → (f.recorded.negotiated ≡ true) ⊎ VouchedIn i
  pub says : AllByRecursion (Says o.next) o.written
  pub accepts : IsGood x f i → AllByRecursion NoReject o.written

-- of each reply
abbrev pub RepliesNegotiate : Type 0
RepliesNegotiate = (x : Around) (f : Facts) (i : Incoming) → Negotiates x f i (reply_of x f i)
