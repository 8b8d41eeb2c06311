use Rattle.session_model.proofs.Recoverable.{recoverable_counts}
use Rattle.session_model.proofs.laws.recoverable_counts.Goals as goal

pub returns : goal.returns
returns c = record { law = recoverable_counts }
