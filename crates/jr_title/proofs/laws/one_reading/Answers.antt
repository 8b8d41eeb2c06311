use Rattle.jr_title.proofs.Causes.{one_reading}
use Rattle.jr_title.proofs.laws.one_reading.Goals as goal

pub returns : goal.returns
returns c = record { law = one_reading }
