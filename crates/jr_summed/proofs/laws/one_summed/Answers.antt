use Rattle.jr_summed.proofs.Finding.{one_summed}
use Rattle.jr_summed.proofs.laws.one_summed.Goals as goal

pub returns : goal.returns
returns c = record { law = one_summed }
