use Rattle.session_model.proofs.Recoverable.{recoverable_connections}
use Rattle.session_model.proofs.laws.recoverable_connections.Goals as goal

pub returns : goal.returns
returns c = record { law = recoverable_connections }
