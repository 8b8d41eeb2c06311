use Rattle.drain_finish.proofs.Sealed.{ends_finished}
use Rattle.drain_finish.proofs.ends.ends_finished.Goals as goal

pub returns : goal.returns
returns c = record { law = ends_finished }
