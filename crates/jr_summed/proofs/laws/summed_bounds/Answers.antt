use Rattle.jr_summed.proofs.Finding.{bounds}
use Rattle.jr_summed.proofs.laws.summed_bounds.Goals as goal

pub returns : goal.returns
returns c = record { law = bounds }
