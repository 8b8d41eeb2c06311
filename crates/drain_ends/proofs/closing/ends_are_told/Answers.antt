use Rattle.drain_ends.proofs.Closed.{ends_are_told}
use Rattle.drain_ends.proofs.closing.ends_are_told.Goals as goal

pub returns : goal.returns
returns c = record { law = ends_are_told }
