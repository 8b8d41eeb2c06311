use Rattle.std.proofs.Common.{◌≡◌}
use Rattle.gate_turn.specs.Places.{known}
use Rattle.gate_turn.specs.Calls.{IsFree}
use Rattle.gate_senders.specs.Gate.{IsPassAt}
use Rattle.cases_bench.proofs.bench.waits.watched.Given as goal

abbrev pub invariant-loop : goal.invariant-loop
invariant-loop g l = record {
  own : IsPassAt l.gate l.pass;
  free : IsFree l.pass;
  kept : ((known l.pass).number ≡ (known l.fn.pass).number) × ((known l.pass).made ≡ (known l.fn.pass).made);
}
