use Rattle.std.proofs.Common.{◌≡◌, ◌-◌, ◌≤◌, take, length, Ok}
use Rattle.order_gate.specs.Reported.{Reported}
use Rattle.order_gate.specs.Desks.{known_of, IsReady}
use Rattle.order_gate.proofs.desk.Desk.send_rest.Given as goal

abbrev pub decreases-pieces : goal.decreases-pieces
decreases-pieces g l = length l.reports - l.sent

abbrev pub invariant-pieces : goal.invariant-pieces
invariant-pieces g l = record {
  ready : IsReady l.gate l.self;
  number : l.self.number ≡ l.fn.self.number;
  owed : l.self.owed ≡ l.fn.self.owed;
  within : l.sent ≤ length l.reports;
  reported : Reported (known_of l.fn.self) (known_of l.self) (take l.sent l.reports) (Ok tt);
}
