use Rattle.life_laws.proofs.Loops.{life_may_turn}
use Rattle.life_laws.proofs.lives.life_may_turn.Goals as goal

pub returns : goal.returns
returns c = record { law = life_may_turn }
