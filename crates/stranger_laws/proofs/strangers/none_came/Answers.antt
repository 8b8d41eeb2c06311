use Rattle.stranger_laws.proofs.Given.{none_came}
use Rattle.stranger_laws.proofs.strangers.none_came.Goals as goal

pub returns : goal.returns
returns c = record { law = none_came }
