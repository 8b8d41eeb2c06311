use Rattle.turn_laws.proofs.Working.{turn_may_stand}
use Rattle.turn_laws.proofs.turns.turn_may_stand.Goals as goal

pub returns : goal.returns
returns c = record { law = turn_may_stand }
