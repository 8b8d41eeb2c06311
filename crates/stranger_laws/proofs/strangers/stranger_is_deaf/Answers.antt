use Rattle.stranger_laws.proofs.Deaf.{stranger_is_deaf}
use Rattle.stranger_laws.proofs.strangers.stranger_is_deaf.Goals as goal

pub returns : goal.returns
returns c = record { law = stranger_is_deaf }
