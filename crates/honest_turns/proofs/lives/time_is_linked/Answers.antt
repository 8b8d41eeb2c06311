use Rattle.honest_turns.proofs.Timing.{time_is_linked}
use Rattle.honest_turns.proofs.lives.time_is_linked.Goals as goal

pub returns : goal.returns
returns c = record { law = time_is_linked }
