use Rattle.std.proofs.Common.{◌≡◌, ◌-◌, [], ◌∷◌}
use Rattle.gate_turn.specs.Views.{new_part}
use Rattle.gate_turn.specs.Calls.{opened_with}
use Rattle.gate_turn.proofs.Making.{Making}
use Rattle.gate_turn.proofs.lock.TurnLock.make_passes.Given as goal

abbrev pub invariant-loop-number : goal.invariant-loop-number
invariant-loop-number g l = record {
  own : l.first.table_id ≡ l.self.table.shared.table_id;
  view : l.first.me.0 ≡ new_part 1 (l.number - 1) (g.T.Logged.tells (opened_with l.self)) ∷ [];
  slot : l.first.me.1 ≡ [];
  made : Making l.self (g.T.Logged.tells (opened_with l.self)) l.list l.number;
}
