use Rattle.std.proofs.Common.{◌≡◌}
use Rattle.gate_turn.proofs.lock.TurnLock.approach.Given as goal

abbrev pub invariant-loop : goal.invariant-loop
invariant-loop g l = record {
  own : l.seat.table_id ≡ l.fn.seat.table_id;
  me : l.seat.me ≡ l.fn.seat.me;
}
