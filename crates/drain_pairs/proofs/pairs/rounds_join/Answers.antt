use Rattle.drain_pairs.proofs.Kept.{rounds_join}
use Rattle.drain_pairs.proofs.pairs.rounds_join.Goals as goal

pub returns : goal.returns
returns c = record { law = rounds_join }
