use Rattle.jr_judge.proofs.Verdicts.{one_verdict}
use Rattle.jr_judge.proofs.laws.one_verdict_of_box.Goals as goal

pub returns : goal.returns
returns c = one_verdict
