use Rattle.connection_laws.proofs.Lived.{connection_kept}
use Rattle.connection_laws.proofs.connections.connection_kept.Goals as goal

pub returns : goal.returns
returns c = record { law = connection_kept }
