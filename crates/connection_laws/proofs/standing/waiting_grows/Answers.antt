use Rattle.connection_laws.proofs.Going.{waiting_grows}
use Rattle.connection_laws.proofs.standing.waiting_grows.Goals as goal

pub returns : goal.returns
returns c = record { law = waiting_grows }
