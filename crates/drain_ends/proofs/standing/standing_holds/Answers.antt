use Rattle.drain_ends.proofs.Stood.{standing_holds}
use Rattle.drain_ends.proofs.standing.standing_holds.Goals as goal

pub returns : goal.returns
returns c = record { law = standing_holds }
