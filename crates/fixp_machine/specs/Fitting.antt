-- What the act of a reply is to an inbox: the inbox can take it, and what is recorded moves with it. And which ranges are
-- served (FIXP 1.1, RetransmitRequest; the limit of one request is this project's profile).
use Rattle.std.specs.Prelude.{◌≡◌, ⊤, ◌⊎◌, ℕ, ◌+◌, ◌<◌, ◌≤◌, ◌^◌, true, false, Some, None, IsSome}
use Rattle.fixp_msgs.specs.declared.flow.Flow.{Flow}
use Rattle.fixp_msgs.specs.declared.flow.Flow.TheVariants as flows
use Rattle.fixp_msgs.specs.declared.numbering.Range.{Range}
use Rattle.flow_retrans.specs.Judging.{request_limit}
use Rattle.fixp_shake.specs.declared.config.EndConfig.{EndConfig}
use Rattle.fixp_replies.specs.declared.act.Act.{Act}
use Rattle.fixp_replies.specs.declared.act.Act.TheVariants as acts
use Rattle.fixp_replies.specs.declared.facts.EndState.{EndState}
use Rattle.fixp_replies.specs.declared.facts.Facts.{Facts}
use Rattle.fixp_replies.specs.Incoming.{Incoming, application, session, wrong_order, too_short, unknown}
use Rattle.fixp_replies.specs.Facts.{Around}
use Rattle.fixp_replies.specs.Outcomes.{Outcome}
use Rattle.fixp_replies.specs.Replies.{reply_of, reply_to_bad_frame}
use Rattle.fixp_machine.specs.Sound.{Sound, HeldFits}

-- a frame's message is an application message
abbrev pub IsMessage : Incoming → Type 0
IsMessage (application payload) = ⊤
IsMessage (session m) = ⊥
IsMessage wrong_order = ⊥
IsMessage too_short = ⊥
IsMessage (unknown template) = ⊥

-- An inbox of this flow can take an act, where this is recorded, and HasMessage says that there is a message to be applied:
-- that message as the next one, a jump of an idempotent flow from the next number on, and each mark once
abbrev pub CanTake : Flow → (most : ℕ) → EndState → (HasMessage : Type 0) → Act → Type 0
CanTake flow most recorded HasMessage acts.Nothing = ⊤
CanTake flow most recorded HasMessage (acts.Apply number) = HasMessage × (number ≡ recorded.inbox_next) × (number ≤ most)
CanTake flow most recorded HasMessage (acts.Skip from count) = (flow ≡ flows.Idempotent) × (from ≡ recorded.inbox_next) × (1 ≤ count)
    × (from + count ≤ most + 1)
CanTake flow most recorded HasMessage acts.Negotiated = recorded.negotiated ≡ false
CanTake flow most recorded HasMessage (acts.PeerFinished last) = recorded.peer_last ≡ None
CanTake flow most recorded HasMessage (acts.Told from count) = ⊤
CanTake flow most recorded HasMessage acts.Ended = ⊤

-- what is recorded once an act is done
abbrev pub recorded_after : Act → EndState → EndState
recorded_after acts.Nothing recorded = recorded
recorded_after (acts.Apply number) recorded = record recorded { inbox_next = number + 1 }
recorded_after (acts.Skip from count) recorded = record recorded { inbox_next = from + count }
recorded_after acts.Negotiated recorded = record recorded { negotiated = true }
recorded_after (acts.PeerFinished last) recorded = record recorded { peer_last = Some last }
recorded_after (acts.Told from count) recorded = recorded
recorded_after acts.Ended recorded = recorded

-- a range that may be served: of messages that were sent, from number 1, one at least and no more than one request asks for
pub record WasSent (sent : ℕ) (range : Range) : Type 0 where
  pub first : 1 ≤ range.from
  pub some : 1 ≤ range.count
  pub few : range.count ≤ request_limit
  pub last : range.from + range.count ≤ sent + 1

-- an act moves what is recorded from this to that, but for the number of entries sent
abbrev pub Records : Act → (before after : EndState) → Type 0
Records act before after = after ≡ record (recorded_after act before) { sent = after.sent }

-- what an outcome keeps to, at a frame with this message: only an application message is held
pub record Fits (cfg : EndConfig) (most : ℕ) (f : Facts) (i : Incoming) (o : Outcome) : Type 0 where
  pub takes : CanTake cfg.peer_flow most f.recorded (IsMessage i) o.act
  pub recorded : Records o.act f.recorded o.next.recorded
  pub served : (range : Range) → o.next.connection.serving ≡ Some range
      → ((f.connection.serving ≡ Some range) × (o.next.recorded.sent ≡ f.recorded.sent)) ⊎ WasSent o.next.recorded.sent range
  pub holds : IsSome o.holds → IsMessage i

pub record ActsFit : Type 0 where
  pub frames : (x : Around) (f : Facts) (i : Incoming) → x.most < 2 ^ 40 → Sound x.config f → HeldFits x.held f
      → Fits x.config x.most f i (reply_of x f i)
  pub bad_frames : (x : Around) (f : Facts) (i : Incoming) → Fits x.config x.most f i (reply_to_bad_frame x f)
