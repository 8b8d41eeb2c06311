use Rattle.session_model.proofs.Recoverable.{recoverable_keeps_prefix}
use Rattle.session_model.proofs.laws.recoverable_keeps_prefix.Goals as goal

pub returns : goal.returns
returns c = record { law = recoverable_keeps_prefix }
