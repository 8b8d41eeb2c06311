use Rattle.std.proofs.Common.{◌≡◌, ℕ, ◌<◌, ◌≤◌, length, slice_index_or}
use Rattle.gate_staff.specs.Business.{lock_of}
use Rattle.order_gate.specs.declared.hand.Hand.{Hand}
use Rattle.order_gate.specs.Desks.{Counted}
use Rattle.order_gate.proofs.hand.count_each.Given as goal

abbrev pub invariant-loop-place : goal.invariant-loop-place
invariant-loop-place g l = record {
  long : length l.hands ≡ length l.fn.hands;
  counted : (i : ℕ) (h : Hand _ _ _) → i < l.place → Counted (lock_of l.gate) (slice_index_or l.fn.hands i h) (slice_index_or l.hands i h);
  left : (i : ℕ) (h : Hand _ _ _) → l.place ≤ i → slice_index_or l.hands i h ≡ slice_index_or l.fn.hands i h;
}
