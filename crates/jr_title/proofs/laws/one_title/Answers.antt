use Rattle.jr_title.proofs.Titles.{one_title}
use Rattle.jr_title.proofs.laws.one_title.Goals as goal

pub returns : goal.returns
returns c = record { law = one_title }
