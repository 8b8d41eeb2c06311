use Rattle.std.proofs.Common.{◌≡◌, ◌-◌, false, None, length}
use Rattle.gate_staff.specs.Runs.{IsReady, plan_of, Ran}
use Rattle.gate_staff.proofs.sender.Sender.submit_rest.Given as goal

abbrev pub invariant-pieces : goal.invariant-pieces
invariant-pieces g l = record {
  ready : IsReady l.gate l.self;
  plan : plan_of l.self ≡ plan_of l.fn.self;
  unrefused : l.self.refused ≡ None;
  unturned : l.self.turned ≡ false;
  goes : (t : _) → Ran l.gate l.self t → Ran l.gate l.fn.self t;
}

abbrev pub decreases-pieces : goal.decreases-pieces
decreases-pieces g l = length (plan_of l.self) - l.self.done
