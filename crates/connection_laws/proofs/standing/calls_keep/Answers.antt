use Rattle.connection_laws.proofs.Going.{calls_keep}
use Rattle.connection_laws.proofs.standing.calls_keep.Goals as goal

pub returns : goal.returns
returns c = record { law = calls_keep }
