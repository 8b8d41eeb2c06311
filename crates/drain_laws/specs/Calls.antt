-- What the other calls of an end make of the measure: what it sends, tells and closes lowers it, and a heartbeat alone raises it.
use Rattle.std.specs.Prelude.{◌≡◌, ℕ, ◌+◌, ◌*◌, ◌≤◌, true, false, if◌then◌else◌, List, [], ◌∷◌, length, Some, None, is_some}
use Rattle.fixp_msgs.specs.declared.numbering.Range.{Range}
use Rattle.fixp_shake.specs.declared.config.EndConfig.{EndConfig}
use Rattle.fixp_shake.specs.Flows.{is_idempotent}
use Rattle.fixp_shake.specs.Phases.{is_shaken}
use Rattle.fixp_replies.specs.Events.{closes, heartbeats, tells_finish}
use Rattle.fixp_machine.specs.Machine.{State, Call, tick, turn_done, closed, link_end, live, again, taken, reserve, held_done, around, step}
use Rattle.connection_laws.specs.Writing.{Piece, said, entry, writes}
use Rattle.drain_laws.specs.Weights.{weight_of, entry_weight}
use Rattle.drain_laws.specs.Loads.{load_at}

-- what an end writes: entries are of its own flow
abbrev pub weight_out : EndConfig → Piece → ℕ
weight_out c (said m) = weight_of m
weight_out c (entry payload) = entry_weight (is_idempotent c.own_flow)

abbrev pub weights_out : EndConfig → List Piece → ℕ
weights_out c [] = 0
weights_out c (p ∷ later) = weight_out c p + weights_out c later

-- a call lowers the measure by k, with what it writes
abbrev pub Falls : (m n : ℕ) → State → Call → (k : ℕ) → Type 0
Falls m n s call k = weights_out s.config (writes s call) + load_at m n (step s call) + k ≤ load_at m n s

-- how many heartbeats a tick writes at this moment: one at most, and none where the connection has ended
abbrev pub beats_at : State → (now : ℕ) → ℕ
beats_at s now = if is_some s.ending then 0 else length (heartbeats (around s 0 now) s.facts s.last_sent s.unsent)

-- Entries that go live, or again, lower it by 4 each, and so do the finish that is told and the connection that is closed. The other
-- calls do not raise it, but a tick that writes a heartbeat, by 1
pub record CallsFall : Type 0 where
  pub sends : (m n : ℕ) (s : State) (payloads : List (List ℕ)) (now : ℕ) → is_shaken s.facts.connection.phase ≡ true
      → s.facts.recorded.sent + length payloads ≤ m → Falls m n s (live payloads now) (4 * length payloads)
  pub resends : (m n : ℕ) (s : State) (range : Range) (payloads : List (List ℕ)) (now : ℕ) → is_idempotent s.config.own_flow ≡ false
      → s.facts.connection.serving ≡ Some range → 1 ≤ length payloads → length payloads ≤ range.count
      → Falls m n s (again payloads now) (4 * length payloads)
  pub tells : (m n : ℕ) (s : State) (last now : ℕ) → s.ending ≡ None → tells_finish (around s 0 now) s.facts last ≡ true
      → Falls m n s (closed last now) 4
  pub shuts : (m n : ℕ) (s : State) (now : ℕ) → s.ending ≡ None → closes (around s 0 now) s.facts ≡ true → Falls m n s (turn_done now) 4
  pub finishes : (m n : ℕ) (s : State) (last now : ℕ) → Falls m n s (closed last now) 0
  pub ends_turn : (m n : ℕ) (s : State) (now : ℕ) → Falls m n s (turn_done now) 0
  pub holds : (m n : ℕ) (s : State) → Falls m n s held_done 0
  pub cuts : (m n : ℕ) (s : State) → Falls m n s link_end 0
  pub takes : (m n : ℕ) (s : State) (count : ℕ) → Falls m n s (taken count) 0
  pub reserves : (m n : ℕ) (s : State) → Falls m n s reserve 0
  pub beats : (m n : ℕ) (s : State) (now : ℕ)
      → weights_out s.config (writes s (tick now)) + load_at m n (step s (tick now)) ≤ load_at m n s + beats_at s now
