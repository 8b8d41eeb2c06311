use Rattle.std.proofs.Common.{◌≡◌, length}
use Rattle.order_gate.specs.Desks.{AreNew}
use Rattle.order_gate.proofs.hand.new_hands.Given as goal

abbrev pub invariant-loop-place : goal.invariant-loop-place
invariant-loop-place g l = record {
  long : length l.hands.items ≡ l.place;
  are_new : AreNew l.terms l.hands.items;
}
