use Rattle.std.proofs.Common.{◌≡◌, ℕ, ◌+◌, ◌<◌, ◌≤◌, length, slice_index_or, None}
use Rattle.gate_turn.specs.Rule.{In}
use Rattle.gate_turn.specs.Listed.{pass_at}
use Rattle.order_gate.specs.declared.hand.Hand.{Hand}
use Rattle.order_gate.specs.Desks.{without_pass}
use Rattle.order_gate.proofs.hand.passes_of_all.Given as goal

abbrev pub invariant-loop-place : goal.invariant-loop-place
invariant-loop-place g l = record {
  long : length l.hands ≡ length l.fn.hands;
  taken : (i : ℕ) (h : Hand _ _ _) → i < l.place → slice_index_or l.hands i h ≡ without_pass (slice_index_or l.fn.hands i h);
  left : (i : ℕ) (h : Hand _ _ _) → l.place ≤ i → slice_index_or l.hands i h ≡ slice_index_or l.fn.hands i h;
  passes : (i : ℕ) (h : Hand _ _ _) → i < l.place → pass_at l.passes (i + 1) ≡ (slice_index_or l.fn.hands i h).desk.pass;
  others : (n : ℕ) → ¬ In l.place n → pass_at l.passes n ≡ None;
}
