use Rattle.std.proofs.Common.{◌≡◌, ◌+◌}
use Rattle.order_gate.specs.Places.{places}
use Rattle.order_gate.proofs.share.places_of.Given as goal

abbrev pub invariant-loop-place : goal.invariant-loop-place
invariant-loop-place l = l.list.items ≡ places l.call.desks l.number (l.call.turn + 1) 0 l.place
