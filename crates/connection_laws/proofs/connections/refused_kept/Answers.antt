use Rattle.connection_laws.proofs.Lived.{refused_kept}
use Rattle.connection_laws.proofs.connections.refused_kept.Goals as goal

pub returns : goal.returns
returns c = record { law = refused_kept }
