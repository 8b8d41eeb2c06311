use Rattle.jr_record.proofs.Verdicts.{at_most_one_verdict}
use Rattle.jr_record.proofs.laws.one_verdict.Goals as goal

pub returns : goal.returns
returns c = at_most_one_verdict
