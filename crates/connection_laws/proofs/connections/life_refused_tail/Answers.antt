use Rattle.connection_laws.proofs.Living.{life_refused_tail}
use Rattle.connection_laws.proofs.connections.life_refused_tail.Goals as goal

pub returns : goal.returns
returns c = record { law = life_refused_tail }
