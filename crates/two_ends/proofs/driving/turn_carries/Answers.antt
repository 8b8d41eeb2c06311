use Rattle.two_ends.proofs.Moving.{turn_carries}
use Rattle.two_ends.proofs.driving.turn_carries.Goals as goal

pub returns : goal.returns
returns c = record { law = turn_carries }
