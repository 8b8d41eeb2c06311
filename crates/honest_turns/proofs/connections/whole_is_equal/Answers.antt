use Rattle.honest_turns.proofs.Resting.{whole_is_equal}
use Rattle.honest_turns.proofs.connections.whole_is_equal.Goals as goal

pub returns : goal.returns
returns c = record { law = whole_is_equal }
