use Rattle.connection_laws.proofs.Tailing.{tail_kept}
use Rattle.connection_laws.proofs.connections.tail_kept.Goals as goal

pub returns : goal.returns
returns c = record { law = tail_kept }
