use Rattle.drain_opening.proofs.Opened.{opening_holds}
use Rattle.drain_opening.proofs.opening.opening_holds.Goals as goal

pub returns : goal.returns
returns c = record { law = opening_holds }
