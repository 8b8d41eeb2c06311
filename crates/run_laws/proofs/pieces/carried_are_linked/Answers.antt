use Rattle.run_laws.proofs.Joined.{carried_are_linked}
use Rattle.run_laws.proofs.pieces.carried_are_linked.Goals as goal

pub returns : goal.returns
returns c = record { law = carried_are_linked }
