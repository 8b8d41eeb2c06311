use Rattle.turn_laws.proofs.Adding.{cut_adds}
use Rattle.turn_laws.proofs.turns.cut_adds.Goals as goal

pub returns : goal.returns
returns c = record { law = cut_adds }
