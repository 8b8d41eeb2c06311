use Rattle.jr_dated.proofs.Spelling.{one}
use Rattle.jr_dated.proofs.laws.one_dated.Goals as goal

pub returns : goal.returns
returns c = one
