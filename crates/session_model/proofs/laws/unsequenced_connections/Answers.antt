use Rattle.session_model.proofs.Unsequenced.{unsequenced_connections}
use Rattle.session_model.proofs.laws.unsequenced_connections.Goals as goal

pub returns : goal.returns
returns c = record { law = unsequenced_connections }
