use Rattle.std.proofs.Common.{length}
use Rattle.jr_log.specs.Opening.{Takes}
use Rattle.jr_log.proofs.scan.take_records.Given as goal

abbrev pub invariant-taking : goal.invariant-taking
invariant-taking l = Takes l.held l.fn.records.items l.records.items l.rest

abbrev pub decreases-taking : goal.decreases-taking
decreases-taking l = length l.rest
