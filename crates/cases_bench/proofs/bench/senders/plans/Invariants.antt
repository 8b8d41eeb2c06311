use Rattle.std.proofs.Common.{◌≡◌, ◌≤◌}
use Rattle.std.specs.Prelude.{vec_len, vec_capacity}
use Rattle.cases_bench.proofs.bench.senders.plans.Given as goal

abbrev pub invariant-loop : goal.invariant-loop
invariant-loop l = record {
  count : vec_len l.plans ≡ l.counter;
  room : l.senders ≤ vec_capacity l.plans;
}
