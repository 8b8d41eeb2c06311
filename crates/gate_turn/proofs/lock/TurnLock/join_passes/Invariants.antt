use Rattle.std.proofs.Common.{◌≡◌}
use Rattle.gate_turn.proofs.Making.{Joining}
use Rattle.gate_turn.proofs.lock.TurnLock.join_passes.Given as goal

abbrev pub invariant-loop-number : goal.invariant-loop-number
invariant-loop-number g l = record {
  own : l.keeper.table_id ≡ l.self.table.shared.table_id;
  joined : Joining l.fn.passes l.passes l.keeper.me.0 l.number;
}
