use Rattle.connection_laws.proofs.Going.{call_keeps}
use Rattle.connection_laws.proofs.standing.call_keeps.Goals as goal

pub returns : goal.returns
returns c = record { law = call_keeps }
