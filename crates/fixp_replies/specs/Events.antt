-- What an end does at the events of a connection other than frames: its beginning, a tick of the clock, the end of a turn, the
-- outbox's finish, and the link's end (FIXP 1.1, "Session lifecycle", keepalive and FinishedSending; the limits are this
-- project's profile).
use Rattle.std.specs.Prelude.{ℕ, ◌+◌, ◌-◌, ◌*◌, ◌==◌, ◌&&◌, Bool, not, nat_le, if◌then◌else◌, List, [], ◌∷◌, ◌++◌, map, Option, Some, None, is_none}
use Rattle.fixp_msgs.specs.declared.numbering.Range.{Range}
use Rattle.fixp_msgs.specs.Message.{Message, sequence, unsequenced_heartbeat, applied, finished_sending, terminate}
use Rattle.fixp_shake.specs.declared.phase.Phase.TheVariants.{Idle, Negotiating, Establishing, Closing}
use Rattle.fixp_shake.specs.declared.violation.Violation.{Violation}
use Rattle.fixp_shake.specs.declared.violation.Violation.TheVariants.{Silent, HandshakeLate}
use Rattle.fixp_shake.specs.Flows.{is_sequenced, is_absent}
use Rattle.fixp_shake.specs.Phases.{is_established, is_shaken}
use Rattle.fixp_replies.specs.declared.act.Ending.{Ending}
use Rattle.fixp_replies.specs.declared.act.Ending.TheVariants as endings
use Rattle.fixp_replies.specs.declared.facts.EndState.{EndState}
use Rattle.fixp_replies.specs.declared.facts.Facts.{Facts}
use Rattle.fixp_replies.specs.declared.facts.OwnFinish.TheVariants as own
use Rattle.fixp_replies.specs.Facts.{Around, is_initiator, connecting, in_phase, finishes_exchanged, is_open}
use Rattle.fixp_replies.specs.Outcomes.{opening_negotiate, opening_establish, ends_as}
use Rattle.fixp_replies.specs.Serving.{own_finishing}

-- what an event other than a frame makes: what is written, and the facts from then on
pub record Made : Type 0 where
  pub written : List Message
  pub next : Facts

-- A connection begins: an acceptor waits; an initiator negotiates, or establishes where the session was negotiated
abbrev pub begun : Around → EndState → Made
begun x recorded =
    if not (is_initiator x.config.role) then record { written = []; next = connecting recorded Idle }
    else if recorded.negotiated then record { written = opening_establish x (connecting recorded Establishing) ∷ []; next = connecting recorded Establishing }
    else record { written = opening_negotiate x ∷ []; next = connecting recorded Negotiating }

-- the heartbeat of the own flow: a flow with numbers tells the next one
abbrev pub heartbeat : Around → Facts → Message
heartbeat x f = if is_sequenced x.config.own_flow then sequence (f.recorded.sent + 1) else unsequenced_heartbeat

-- nothing was written for the own interval
abbrev pub is_due : Around → (last_sent : ℕ) → Bool
is_due x last_sent = nat_le x.config.keepalive (x.moment - last_sent)

-- a heartbeat is written in Established, where none of a range is to be sent again, and nothing waits to be sent
abbrev pub heartbeats : Around → Facts → (last_sent : ℕ) (unsent : List ℕ) → List Message
heartbeats x f last_sent [] = if is_established f.connection.phase && is_none f.connection.serving && is_due x last_sent then heartbeat x f ∷ [] else []
heartbeats x f last_sent (_ ∷ _) = []

-- how long a handshake may take, in milliseconds
abbrev pub handshake_limit : ℕ
handshake_limit = 10000

-- the handshake takes too long, or nothing came for three of the peer's intervals
abbrev pub lateness : Around → Facts → (start last_received : ℕ) → Option Violation
lateness x f start last_received =
    if is_shaken f.connection.phase
    then (if nat_le (3 * f.connection.peer_interval) (x.moment - last_received) then Some (Silent last_received x.moment) else None)
    else (if nat_le handshake_limit (x.moment - start) then Some (HandshakeLate start x.moment) else None)

-- the end of a turn tells the numbers that were applied in it, each run of consecutive ones once
abbrev pub applied_runs : List Range → List Message
applied_runs = map (λ (run : Range). applied run.from run.count)

-- an initiator closes the connection once both finishes are exchanged and nothing is to be sent again
abbrev pub closes : Around → Facts → Bool
closes x f = is_initiator x.config.role && is_established f.connection.phase && finishes_exchanged x f && is_none f.connection.serving

abbrev pub turn_ended : Around → Facts → List Range → Made
turn_ended x f runs =
    if closes x f
    then record { written = applied_runs runs ++ terminate x.config.session 1 [] ∷ []; next = in_phase f Closing }
    else record { written = applied_runs runs; next = f }

-- the outbox has its finish behind this many entries
abbrev pub outbox_finished : Facts → ℕ → Facts
outbox_finished f last = record f { recorded = record f.recorded { finish = Some last } }

-- FinishedSending is written once on each connection, where all that the outbox has was sent and nothing is to be sent again
abbrev pub tells_finish : Around → Facts → (last : ℕ) → Bool
tells_finish x f last =
    not (is_absent x.config.own_flow) && is_established f.connection.phase && is_open f.connection.own_finish
    && f.recorded.sent == last && is_none f.connection.serving

abbrev pub finish_told : Around → Facts → (last : ℕ) → Made
finish_told x f last =
    if tells_finish x f last
    then record {
      written = finished_sending x.config.session (if is_sequenced x.config.own_flow then Some last else None) ∷ [];
      next = own_finishing (outbox_finished f last) own.Told;
    }
    else record { written = []; next = outbox_finished f last }

-- how a connection ends whose link ends
abbrev pub link_ending : Around → Facts → Ending
link_ending x f = ends_as x f endings.LinkEnded
