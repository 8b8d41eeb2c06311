use Rattle.turn_laws.proofs.Adding.{turn_adds}
use Rattle.turn_laws.proofs.turns.turn_adds.Goals as goal

pub returns : goal.returns
returns c = record { law = turn_adds }
