-- A message that opens neither a session nor a connection is small.
use Rattle.std.proofs.Common.{◌≡◌, ℕ, ◌+◌, ◌≤◌, Bool, true, false, if◌then◌else◌, ◌&&◌, List, [], ◌∷◌, length, Option, Some, None, refl, ◌∙◌, true≢false, arith}
use Rattle.std.specs.Prelude.{is_none}
use Rattle.std.specs.List.{AllByRecursion}
use Rattle.fixp_msgs.specs.Message.{Message}
use Rattle.fixp_shake.specs.declared.config.EndConfig.{EndConfig}
use Rattle.fixp_shake.specs.Flows.{is_sequenced}
use Rattle.fixp_shake.specs.Phases.{is_established}
use Rattle.fixp_replies.specs.declared.reply.Outgoing.{Outgoing}
use Rattle.fixp_replies.specs.declared.reply.Outgoing.TheVariants as outgoing
use Rattle.fixp_replies.specs.declared.facts.Facts.{Facts}
use Rattle.fixp_replies.specs.Facts.{Around}
use Rattle.fixp_replies.specs.Events.{heartbeats, is_due}
use Rattle.fixp_replies.specs.Outgoing.{outgoing_message, messages_of, carries_credentials, place_limit}
use Rattle.fixp_machine.specs.Sound.{is_opening}

abbrev pub ArePlain : List Message → Type 0
ArePlain ms = AllByRecursion (λ (m : Message). is_opening m ≡ false) ms

opens : (cfg : EndConfig) (m : Outgoing) → carries_credentials m ≡ is_opening (outgoing_message cfg m)
opens cfg (outgoing.Negotiate timestamp) = refl
opens cfg (outgoing.NegotiationResponse timestamp) = refl
opens cfg (outgoing.NegotiationReject session timestamp code) = refl
opens cfg (outgoing.Establish timestamp next expected) = refl
opens cfg (outgoing.EstablishmentAck timestamp next expected) = refl
opens cfg (outgoing.EstablishmentReject session timestamp code) = refl
opens cfg (outgoing.Sequence next) = refl
opens cfg outgoing.UnsequencedHeartbeat = refl
opens cfg (outgoing.RetransmitRequest timestamp from count) = refl
opens cfg (outgoing.Retransmission timestamp from count) = refl
opens cfg (outgoing.RetransmitReject session timestamp code) = refl
opens cfg (outgoing.Applied from count) = refl
opens cfg (outgoing.NotApplied from count) = refl
opens cfg (outgoing.FinishedSending last) = refl
opens cfg outgoing.FinishedReceiving = refl
opens cfg (outgoing.Terminate code) = refl

-- what stands in a place is small where it is plain
pub plain_is_small : (cfg : EndConfig) (place : Option Outgoing) → ArePlain (messages_of cfg (place ∷ [])) → place_limit cfg place ≤ 64
plain_is_small cfg None plain = omega (arith)
plain_is_small cfg (Some m) plain = by_credentials (carries_credentials m) (opens cfg m ∙ plain.0)
  where
    by_credentials : (b : Bool) → b ≡ false → 64 + (if b then length cfg.credentials else 0) ≤ 64
    by_credentials true e = absurd (true≢false e)
    by_credentials false e = omega (arith)

pub beat_is_plain : (x : Around) (f : Facts) (last_sent : ℕ) → ArePlain (heartbeats x f last_sent [])
beat_is_plain x f last_sent = by_case (is_established f.connection.phase && is_none f.connection.serving && is_due x last_sent) (is_sequenced x.config.own_flow)
  where
    by_case : (due numbered : Bool) → ArePlain (if due then (if numbered then Message.sequence (f.recorded.sent + 1) else Message.unsequenced_heartbeat) ∷ [] else [])
    by_case true true = (refl, tt)
    by_case true false = (refl, tt)
    by_case false numbered = tt
