use Rattle.honest_turns.proofs.Connecting.{connection_holds}
use Rattle.honest_turns.proofs.connections.connection_holds.Goals as goal

pub returns : goal.returns
returns c = record { law = connection_holds }
