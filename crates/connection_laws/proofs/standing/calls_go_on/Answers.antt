use Rattle.connection_laws.proofs.Continuing.{calls_go_on}
use Rattle.connection_laws.proofs.standing.calls_go_on.Goals as goal

pub returns : goal.returns
returns c = record { law = calls_go_on }
