use Rattle.jr_summed.proofs.Finding.{one_found}
use Rattle.jr_summed.proofs.laws.one_found.Goals as goal

pub returns : goal.returns
returns c = record { law = one_found }
