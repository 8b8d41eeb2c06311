use Rattle.connection_laws.proofs.Going.{begins_again}
use Rattle.connection_laws.proofs.standing.begins_again.Goals as goal

pub returns : goal.returns
returns c = record { law = begins_again }
