-- The measure of two ends and what is under way between them, and that each of their steps lowers it, but a heartbeat.
use Rattle.std.specs.Prelude.{◌≡◌, ⊤, ℕ, ◌+◌, ◌*◌, ◌≤◌, ◌&&◌, if◌then◌else◌, List, ◌∷◌, length, is_none}
use Rattle.session_model.specs.Journal.{Entry}
use Rattle.fixp_replies.specs.Events.{tells_finish, closes}
use Rattle.fixp_machine.specs.Machine.{State, Call, tick, turn_done, closed, live, again, around}
use Rattle.connection_laws.specs.Writing.{Piece}
use Rattle.two_ends.specs.Reading.{incoming_of}
use Rattle.honest_ends.specs.Worlds.{World, Step, Match, meets, initiator_reads, acceptor_reads, initiator_does, acceptor_does, after, world_after, MayStep, AllMayStep}
use Rattle.honest_ends.specs.Knowing.{StartsKnown}
use Rattle.drain_laws.specs.Loads.{load_at}
use Rattle.drain_laws.specs.Frames.{falls}
use Rattle.drain_laws.specs.Calls.{weights_out, beats_at}
use Rattle.drain_laws.specs.Beginning.{idle_measure}
use Rattle.drain_ends.specs.Agreeing.{IsKnown}

-- what both ends have still to do, whose outboxes come to have these entries, and what is under way both ways
abbrev pub measure : (of_initiator of_acceptor : List Entry) → World → ℕ
measure hi ha w =
    load_at (length hi) (length ha) w.initiator + load_at (length ha) (length hi) w.acceptor
    + (weights_out w.initiator.config w.outward + weights_out w.acceptor.config w.homeward)

-- the tick of a clock may write a heartbeat
abbrev pub beat_of : State → Call → ℕ
beat_of s (tick now) = beats_at s now
beat_of s call = 0

-- each entry that goes live or again lowers the measure by 4, and so do the finish that is told and the connection that is closed, where it goes on
abbrev pub call_lowers : State → Call → ℕ
call_lowers s (live payloads now) = 4 * length payloads
call_lowers s (again payloads now) = 4 * length payloads
call_lowers s (closed last now) = if is_none s.ending && tells_finish (around s 0 now) s.facts last then 4 else 0
call_lowers s (turn_done now) = if is_none s.ending && closes (around s 0 now) s.facts then 4 else 0
call_lowers s call = 0

-- where messages go again there are some
abbrev pub HasSome : Call → Type 0
HasSome (again payloads now) = 1 ≤ length payloads
HasSome call = ⊤

-- At any moment: a message that an end may read lowers the measure, and any other call that may come lowers it so or leaves it; but a tick raises
-- it by the heartbeat that it writes
pub record StepsFallAt (hi ha : List Entry) (w : World) : Type 0 where
  pub at_initiator : (p : Piece) (left : List Piece) (at now : ℕ) → w.homeward ≡ p ∷ left → MayStep hi ha w (initiator_reads at now)
      → measure hi ha (after w (initiator_reads at now)) + falls w.initiator.facts (incoming_of p) ≤ measure hi ha w
  pub at_acceptor : (p : Piece) (left : List Piece) (at now : ℕ) → w.outward ≡ p ∷ left → MayStep hi ha w (acceptor_reads at now)
      → measure hi ha (after w (acceptor_reads at now)) + falls w.acceptor.facts (incoming_of p) ≤ measure hi ha w
  pub by_initiator : (call : Call) → HasSome call → MayStep hi ha w (initiator_does call)
      → measure hi ha (after w (initiator_does call)) + call_lowers w.initiator call ≤ measure hi ha w + beat_of w.initiator call
  pub by_acceptor : (call : Call) → HasSome call → MayStep hi ha w (acceptor_does call)
      → measure hi ha (after w (acceptor_does call)) + call_lowers w.acceptor call ≤ measure hi ha w + beat_of w.acceptor call

-- whatever steps came, where each may come; also once one of the two has ended its connection, or closes it
abbrev pub StepsFall : Type 0
StepsFall = (hi ha : List Entry) (w : World) (steps : List Step) → StartsKnown hi ha w → IsKnown w → AllMayStep hi ha w steps
    → StepsFallAt hi ha (world_after w steps)

-- where two ends of one session begin a connection, the measure is lower than that of no connection
abbrev pub MeetsFall : Type 0
MeetsFall = (hi ha : List Entry) (w : World) (now_i now_a : ℕ) → Match w.initiator.config w.acceptor.config
    → measure hi ha (after w (meets now_i now_a)) + 4
    ≤ idle_measure w.initiator.config w.acceptor.config (length hi) (length ha) w.initiator.facts.recorded w.acceptor.facts.recorded
