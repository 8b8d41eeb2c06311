use Rattle.drain_pairs.proofs.Kept.{begins_joined}
use Rattle.drain_pairs.proofs.pairs.begins_joined.Goals as goal

pub returns : goal.returns
returns c = record { law = begins_joined }
