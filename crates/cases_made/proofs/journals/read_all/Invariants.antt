use Rattle.std.proofs.Common.{◌≡◌}
use Rattle.cases_made.proofs.journals.read_all.Given as goal

abbrev pub invariant-loop-i : goal.invariant-loop-i
invariant-loop-i g l = record { count : g.J.Journal.count l.journal ≡ l.count }
