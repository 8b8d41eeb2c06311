use Rattle.connection_laws.proofs.Living.{life_refused}
use Rattle.connection_laws.proofs.connections.life_refused.Goals as goal

pub returns : goal.returns
returns c = record { law = life_refused }
