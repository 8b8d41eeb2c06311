use Rattle.drain_pairs.proofs.Kept.{drain_finishes_both}
use Rattle.drain_pairs.proofs.pairs.drain_finishes_both.Goals as goal

pub returns : goal.returns
returns c = record { law = drain_finishes_both }
