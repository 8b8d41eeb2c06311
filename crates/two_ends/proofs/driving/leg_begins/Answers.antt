use Rattle.two_ends.proofs.Going.{leg_begins}
use Rattle.two_ends.proofs.driving.leg_begins.Goals as goal

pub returns : goal.returns
returns c = record { law = leg_begins }
