use Rattle.drain_pairs.proofs.Kept.{stop_leaves_apart}
use Rattle.drain_pairs.proofs.pairs.stop_leaves_apart.Goals as goal

pub returns : goal.returns
returns c = record { law = stop_leaves_apart }
