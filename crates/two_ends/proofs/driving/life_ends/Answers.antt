use Rattle.two_ends.proofs.Going.{life_ends}
use Rattle.two_ends.proofs.driving.life_ends.Goals as goal

pub returns : goal.returns
returns c = record { law = life_ends }
