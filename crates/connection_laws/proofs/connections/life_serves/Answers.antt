use Rattle.connection_laws.proofs.Living.{life_serves}
use Rattle.connection_laws.proofs.connections.life_serves.Goals as goal

pub returns : goal.returns
returns c = record { law = life_serves }
