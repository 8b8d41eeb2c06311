use Rattle.honest_turns.proofs.Resting.{rest_holds}
use Rattle.honest_turns.proofs.connections.rest_holds.Goals as goal

pub returns : goal.returns
returns c = record { law = rest_holds }
