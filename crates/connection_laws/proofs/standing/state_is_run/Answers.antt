use Rattle.connection_laws.proofs.Continuing.{state_is_run}
use Rattle.connection_laws.proofs.standing.state_is_run.Goals as goal

pub returns : goal.returns
returns c = record { law = state_is_run }
