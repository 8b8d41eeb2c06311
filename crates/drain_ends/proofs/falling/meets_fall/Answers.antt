use Rattle.drain_ends.proofs.Fallen.{meets_fall}
use Rattle.drain_ends.proofs.falling.meets_fall.Goals as goal

pub returns : goal.returns
returns c = record { law = meets_fall }
