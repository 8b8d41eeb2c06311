use Rattle.honest_turns.proofs.Living.{life_holds}
use Rattle.honest_turns.proofs.lives.life_holds.Goals as goal

pub returns : goal.returns
returns c = record { law = life_holds }
