use Rattle.drain_pairs.proofs.Kept.{more_is_seen}
use Rattle.drain_pairs.proofs.pairs.more_is_seen.Goals as goal

pub returns : goal.returns
returns c = record { law = more_is_seen }
