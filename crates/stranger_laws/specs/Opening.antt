-- Who is a stranger to an end: who gave nothing that opens the session (FIXP 1.1, Negotiate, Establish and EstablishmentAck; that an
-- acceptor compares credentials, and an initiator has none to compare, is this project's profile).
use Rattle.std.specs.Prelude.{◌≡◌, ℕ, ◌&&◌, Bool, false, not, List}
use Rattle.std.specs.List.{AllByRecursion}
use Rattle.std.specs.Str.{bytes_eq}
use Rattle.sofh_frame.specs.Framing.{Frame}
use Rattle.sofh_frame.specs.Splits.{frames_of}
use Rattle.fixp_msgs.specs.Message.{negotiate, negotiation_response, negotiation_reject, establish, establishment_ack}
use Rattle.fixp_shake.specs.declared.config.EndConfig.{EndConfig}
use Rattle.fixp_replies.specs.Facts.{is_initiator}
use Rattle.fixp_replies.specs.Incoming.{Incoming, session, IsIncoming}

-- an acceptor is given its session and its credentials
abbrev pub gives_both : EndConfig → (id credentials : List ℕ) → Bool
gives_both cfg id credentials = not (is_initiator cfg.role) && (bytes_eq id cfg.session && bytes_eq credentials cfg.credentials)

-- an initiator is named its session
abbrev pub names_session : EndConfig → (id : List ℕ) → Bool
names_session cfg id = is_initiator cfg.role && bytes_eq id cfg.session

-- the message from which on an end takes what its peer sends: an Establish that gives both, or an EstablishmentAck that names the session
abbrev pub opens : EndConfig → Incoming → Bool
opens cfg (session (establish id timestamp keepalive next expected credentials)) = gives_both cfg id credentials
opens cfg (session (establishment_ack id timestamp keepalive next expected)) = names_session cfg id
opens cfg _ = false

-- a message of the handshake that gives both, or names the session: one that opens it, or may make it negotiated
abbrev pub gives_keys : EndConfig → Incoming → Bool
gives_keys cfg (session (negotiate id timestamp flow credentials)) = gives_both cfg id credentials
gives_keys cfg (session (establish id timestamp keepalive next expected credentials)) = gives_both cfg id credentials
gives_keys cfg (session (negotiation_response id timestamp flow credentials)) = names_session cfg id
gives_keys cfg (session (negotiation_reject id timestamp code reason)) = names_session cfg id
gives_keys cfg (session (establishment_ack id timestamp keepalive next expected)) = names_session cfg id
gives_keys cfg _ = false

-- none of these messages is such
abbrev pub NoneIs : (Incoming → Bool) → List Incoming → Type 0
NoneIs is messages = AllByRecursion (λ i. is i ≡ false) messages

-- nor is that of a whole frame with which these bytes begin
abbrev pub NoFrameIs : (Incoming → Bool) → List ℕ → Type 0
NoFrameIs is bytes = AllByRecursion (λ (f : Frame). (i : Incoming) → IsIncoming f.order f.message i → is i ≡ false) (frames_of bytes)

-- none of the whole frames that a link gave opens the session of this end: who gave them is a stranger to it
abbrev pub IsStrange : EndConfig → (given : List ℕ) → Type 0
IsStrange cfg given = NoFrameIs (opens cfg) given

-- nor does one give the keys
abbrev pub IsKeyless : EndConfig → (given : List ℕ) → Type 0
IsKeyless cfg given = NoFrameIs (gives_keys cfg) given
