use Rattle.connection_laws.proofs.Going.{stands_longer}
use Rattle.connection_laws.proofs.standing.stands_longer.Goals as goal

pub returns : goal.returns
returns c = record { law = stands_longer }
