use Rattle.connection_laws.proofs.Going.{connection_begins}
use Rattle.connection_laws.proofs.standing.connection_begins.Goals as goal

pub returns : goal.returns
returns c = record { law = connection_begins }
