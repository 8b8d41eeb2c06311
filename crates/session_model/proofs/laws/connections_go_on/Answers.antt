use Rattle.session_model.proofs.Through.{connections_go_on}
use Rattle.session_model.proofs.laws.connections_go_on.Goals as goal

pub returns : goal.returns
returns c = record { law = connections_go_on }
