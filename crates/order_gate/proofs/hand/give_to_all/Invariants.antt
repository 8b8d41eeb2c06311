use Rattle.std.proofs.Common.{◌≡◌, ℕ, ◌+◌, ◌<◌, ◌≤◌, length, slice_index_or}
use Rattle.gate_turn.specs.Listed.{pass_at}
use Rattle.order_gate.specs.declared.hand.Hand.{Hand}
use Rattle.order_gate.specs.Desks.{with_pass}
use Rattle.order_gate.proofs.hand.give_to_all.Given as goal

abbrev pub invariant-loop-place : goal.invariant-loop-place
invariant-loop-place g l = record {
  long : length l.hands ≡ length l.fn.hands;
  given : (i : ℕ) (h : Hand _ _ _) → i < l.place → slice_index_or l.hands i h ≡ with_pass (pass_at l.fn.passes (i + 1)) (slice_index_or l.fn.hands i h);
  left : (i : ℕ) (h : Hand _ _ _) → l.place ≤ i → slice_index_or l.hands i h ≡ slice_index_or l.fn.hands i h;
  there : (n : ℕ) → l.place < n → pass_at l.passes n ≡ pass_at l.fn.passes n;
}
