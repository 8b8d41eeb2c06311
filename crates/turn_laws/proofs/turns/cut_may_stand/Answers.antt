use Rattle.turn_laws.proofs.Working.{cut_may_stand}
use Rattle.turn_laws.proofs.turns.cut_may_stand.Goals as goal

pub returns : goal.returns
returns c = record { law = cut_may_stand }
