use Rattle.std.proofs.Common.{◌≡◌, ℕ, ◌<◌, true, length, get_or}
use Rattle.plan_outbox.specs.declared.front.Front.{Front}
use Rattle.plan_outbox.proofs.fronts.open_fronts.Given as goal

abbrev pub invariant-loop-plan : goal.invariant-loop-plan
invariant-loop-plan l = record {
  many : length l.fronts.items ≡ l._plan-index;
  none : (i : ℕ) (d : Front) → i < l._plan-index → (get_or l.fronts.items i d).places ≡ 0;
  all : (i : ℕ) (d : Front) → i < l._plan-index → (get_or l.fronts.items i d).is_open ≡ true;
}
