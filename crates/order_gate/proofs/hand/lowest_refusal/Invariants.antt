use Rattle.std.proofs.Common.{ℕ, ◌<◌, slice_index_or}
use Rattle.order_gate.specs.declared.hand.Hand.{Hand}
use Rattle.order_gate.specs.Desks.{HasNone}
use Rattle.order_gate.proofs.hand.lowest_refusal.Given as goal

abbrev pub invariant-loop-hand : goal.invariant-loop-hand
invariant-loop-hand g l = (i : ℕ) (h : Hand _ _ _) → i < l.hand-index → HasNone (slice_index_or l.hands i h)
