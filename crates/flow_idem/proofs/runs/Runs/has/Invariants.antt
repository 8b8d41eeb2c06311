use Rattle.std.proofs.Common.{◌≡◌, ◌==◌, false, take}
use Rattle.std.specs.List.{list_any}
use Rattle.flow_idem.specs.Runs.{numbers_in}
use Rattle.flow_idem.proofs.runs.Runs.has.Given as goal

abbrev pub invariant-loop-run : goal.invariant-loop-run
invariant-loop-run l = list_any (λ n. n == l.number) (numbers_in (take l.run-index l.self-inside.whole.items)) ≡ false
