use Rattle.two_ends.proofs.Going.{life_fails}
use Rattle.two_ends.proofs.driving.life_fails.Goals as goal

pub returns : goal.returns
returns c = record { law = life_fails }
