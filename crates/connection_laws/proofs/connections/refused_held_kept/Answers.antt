use Rattle.connection_laws.proofs.Lived.{refused_held_kept}
use Rattle.connection_laws.proofs.connections.refused_held_kept.Goals as goal

pub returns : goal.returns
returns c = record { law = refused_held_kept }
