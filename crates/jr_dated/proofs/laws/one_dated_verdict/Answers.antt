use Rattle.jr_dated.proofs.Verdicts.{at_most_one_verdict}
use Rattle.jr_dated.proofs.laws.one_dated_verdict.Goals as goal

pub returns : goal.returns
returns c = at_most_one_verdict
