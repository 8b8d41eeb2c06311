use Rattle.std.proofs.Common.{length}
use Rattle.jr_segments.proofs.Fitting.{Looked}
use Rattle.jr_segments.proofs.adding.count_fitting.Given as goal

abbrev pub invariant-loop-r : goal.invariant-loop-r
invariant-loop-r l = Looked l.fn.limits l.size l.room l.records l.rest

abbrev pub decreases-loop-r : goal.decreases-loop-r
decreases-loop-r l = length l.rest
