use Rattle.stranger_laws.proofs.Deaf.{stranger_leaves}
use Rattle.stranger_laws.proofs.strangers.stranger_leaves.Goals as goal

pub returns : goal.returns
returns c = record { law = stranger_leaves }
