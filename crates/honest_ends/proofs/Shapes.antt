-- What each message is that one end may have under way to the other.
use Rattle.std.proofs.Common.{◌≡◌, ◌⊎◌, inl, inr, true, List, [], ◌∷◌, ◌++◌}
use Rattle.std.specs.Prelude.{⊤, is_some}
use Rattle.std.specs.List.{AllByRecursion}
use Rattle.session_model.proofs.Lists.{all_append, all_weaker}
use Rattle.fixp_msgs.specs.Flow.{flow_code}
use Rattle.fixp_msgs.specs.Message.{negotiate, negotiation_response, negotiation_reject, establish, establishment_ack, establishment_reject, sequence, unsequenced_heartbeat, retransmit_request, retransmission, retransmit_reject, applied, not_applied, finished_sending, finished_receiving, terminate}
use Rattle.fixp_shake.specs.declared.config.EndConfig.{EndConfig}
use Rattle.fixp_shake.specs.declared.phase.Phase.{Phase}
use Rattle.fixp_shake.specs.declared.phase.Phase.TheVariants as phases
use Rattle.fixp_shake.specs.Flows.{is_sequenced}
use Rattle.fixp_replies.specs.Expecting.{is_newer, is_present}
use Rattle.connection_laws.specs.Writing.{Piece, said, entry}
use Rattle.honest_ends.specs.Numbers.{IsFlowing}

-- a message that any phase takes
abbrev pub IsFree : EndConfig → Piece → Type 0
IsFree cfg (said unsequenced_heartbeat) = ⊤
IsFree cfg (said (applied first count)) = ⊤
IsFree cfg (said (not_applied first count)) = ⊤
IsFree cfg (said (terminate id code reason)) = id ≡ cfg.session
IsFree cfg _ = ⊥

pub free_flows : (cfg : EndConfig) (p : Piece) → IsFree cfg p → IsFlowing cfg p
free_flows cfg (entry payload) f = absurd f
free_flows cfg (said (negotiate id timestamp flow credentials)) f = absurd f
free_flows cfg (said (negotiation_response id timestamp flow credentials)) f = absurd f
free_flows cfg (said (negotiation_reject id timestamp code reason)) f = absurd f
free_flows cfg (said (establish id timestamp keepalive next expected credentials)) f = absurd f
free_flows cfg (said (establishment_ack id timestamp keepalive next expected)) f = absurd f
free_flows cfg (said (establishment_reject id timestamp code reason)) f = absurd f
free_flows cfg (said (sequence next)) f = absurd f
free_flows cfg (said unsequenced_heartbeat) f = tt
free_flows cfg (said (retransmit_request id timestamp first count)) f = absurd f
free_flows cfg (said (retransmission id next timestamp count)) f = absurd f
free_flows cfg (said (retransmit_reject id timestamp code reason)) f = absurd f
free_flows cfg (said (applied first count)) f = tt
free_flows cfg (said (not_applied first count)) f = tt
free_flows cfg (said (finished_sending id last)) f = absurd f
free_flows cfg (said (finished_receiving id)) f = absurd f
free_flows cfg (said (terminate id code reason)) f = f

-- an initiator asks in this phase of the handshake
abbrev pub IsAsk : EndConfig → Phase → Piece → Type 0
IsAsk cfg phases.Negotiating (said (negotiate id timestamp flow credentials)) = (id ≡ cfg.session) × (flow ≡ flow_code cfg.own_flow) × (credentials ≡ cfg.credentials)
IsAsk cfg phases.Establishing (said (establish id timestamp keepalive next expected credentials)) =
    (id ≡ cfg.session) × (keepalive ≡ cfg.keepalive) × (is_sequenced cfg.own_flow ≡ true → is_some next ≡ true) × (credentials ≡ cfg.credentials)
    × (is_present expected ≡ true → is_newer cfg ≡ true)
IsAsk cfg phase _ = ⊥

-- and is answered so, but for the acknowledgement
abbrev pub IsAnswer : EndConfig → Phase → Piece → Type 0
IsAnswer cfg phases.Negotiating (said (negotiation_response id timestamp flow credentials)) = (id ≡ cfg.session) × (flow ≡ flow_code cfg.own_flow)
IsAnswer cfg phases.Negotiating (said (negotiation_reject id timestamp code reason)) = (id ≡ cfg.session) × (code ≡ 4)
IsAnswer cfg phases.Establishing (said (establishment_reject id timestamp code reason)) = (id ≡ cfg.session) × (code ≡ 2)
IsAnswer cfg phase _ = ⊥

abbrev pub IsAck : EndConfig → Piece → Type 0
IsAck cfg (said (establishment_ack id timestamp keepalive next expected)) = (id ≡ cfg.session) × (is_sequenced cfg.own_flow ≡ true → is_some next ≡ true)
IsAck cfg _ = ⊥

-- of some messages one at most is such a one, and the others are free
abbrev pub OneAtMost : EndConfig → (Piece → Type 0) → List Piece → Type 0
OneAtMost cfg P [] = ⊤
OneAtMost cfg P (p ∷ later) = (P p × AllByRecursion (IsFree cfg) later) ⊎ (IsFree cfg p × OneAtMost cfg P later)

-- an acknowledgement behind free ones, and then what is written once the handshake is done
abbrev pub AckFirst : EndConfig → List Piece → Type 0
AckFirst cfg [] = ⊥
AckFirst cfg (p ∷ later) = (IsAck cfg p × AllByRecursion (IsFlowing cfg) later) ⊎ (IsFree cfg p × AckFirst cfg later)

pub none_of : (cfg : EndConfig) (P : Piece → Type 0) (ps : List Piece) → AllByRecursion (IsFree cfg) ps → OneAtMost cfg P ps
none_of cfg P [] a = tt
none_of cfg P (p ∷ ps) a = inr (a.0, none_of cfg P ps a.1)

pub one_behind : (cfg : EndConfig) (P : Piece → Type 0) (ps more : List Piece) → AllByRecursion (IsFree cfg) ps → OneAtMost cfg P more → OneAtMost cfg P (ps ++ more)
one_behind cfg P [] more a o = o
one_behind cfg P (p ∷ ps) more a o = inr (a.0, one_behind cfg P ps more a.1 o)

pub one_before : (cfg : EndConfig) (P : Piece → Type 0) (ps more : List Piece) → OneAtMost cfg P ps → AllByRecursion (IsFree cfg) more → OneAtMost cfg P (ps ++ more)
one_before cfg P [] more o a = none_of cfg P more a
one_before cfg P (p ∷ ps) more (inl o) a = inl (o.0, all_append (IsFree cfg) ps more o.1 a)
one_before cfg P (p ∷ ps) more (inr o) a = inr (o.0, one_before cfg P ps more o.1 a)

pub ack_behind : (cfg : EndConfig) (ps more : List Piece) → AllByRecursion (IsFree cfg) ps → AckFirst cfg more → AckFirst cfg (ps ++ more)
ack_behind cfg [] more a o = o
ack_behind cfg (p ∷ ps) more a o = inr (a.0, ack_behind cfg ps more a.1 o)

pub ack_before : (cfg : EndConfig) (ps more : List Piece) → AckFirst cfg ps → AllByRecursion (IsFlowing cfg) more → AckFirst cfg (ps ++ more)
ack_before cfg [] more o a = absurd o
ack_before cfg (p ∷ ps) more (inl o) a = inl (o.0, all_append (IsFlowing cfg) ps more o.1 a)
ack_before cfg (p ∷ ps) more (inr o) a = inr (o.0, ack_before cfg ps more o.1 a)

pub all_free_flow : (cfg : EndConfig) (ps : List Piece) → AllByRecursion (IsFree cfg) ps → AllByRecursion (IsFlowing cfg) ps
all_free_flow cfg ps a = all_weaker (IsFree cfg) (IsFlowing cfg) (free_flows cfg) ps a
