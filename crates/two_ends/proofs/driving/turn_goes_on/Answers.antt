use Rattle.two_ends.proofs.Going.{turn_goes_on}
use Rattle.two_ends.proofs.driving.turn_goes_on.Goals as goal

pub returns : goal.returns
returns c = record { law = turn_goes_on }
