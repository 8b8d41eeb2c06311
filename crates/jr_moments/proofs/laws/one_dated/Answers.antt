use Rattle.jr_moments.proofs.Spelling.{one}
use Rattle.jr_moments.proofs.laws.one_dated.Goals as goal

pub returns : goal.returns
returns c = one
