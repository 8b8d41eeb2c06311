use Rattle.two_ends.proofs.Going.{leg_ends}
use Rattle.two_ends.proofs.driving.leg_ends.Goals as goal

pub returns : goal.returns
returns c = record { law = leg_ends }
