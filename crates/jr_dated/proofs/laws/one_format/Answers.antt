use Rattle.jr_dated.proofs.Verdicts.{at_most_one_format}
use Rattle.jr_dated.proofs.laws.one_format.Goals as goal

pub returns : goal.returns
returns c = at_most_one_format
