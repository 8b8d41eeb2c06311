use Rattle.session_model.proofs.Guarantees.{recoverable_guarantee}
use Rattle.session_model.proofs.guarantee.recoverable_guarantee.Goals as goal

pub returns : goal.returns
returns c = record { law = recoverable_guarantee }
