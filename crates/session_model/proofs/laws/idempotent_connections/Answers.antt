use Rattle.session_model.proofs.Idempotent.{idempotent_connections}
use Rattle.session_model.proofs.laws.idempotent_connections.Goals as goal

pub returns : goal.returns
returns c = record { law = idempotent_connections }
