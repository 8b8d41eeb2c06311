use Rattle.connection_laws.proofs.Lived.{connection_serves}
use Rattle.connection_laws.proofs.connections.connection_serves.Goals as goal

pub returns : goal.returns
returns c = record { law = connection_serves }
