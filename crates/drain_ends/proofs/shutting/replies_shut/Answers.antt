use Rattle.drain_ends.proofs.Shut.{replies_shut}
use Rattle.drain_ends.proofs.shutting.replies_shut.Goals as goal

pub returns : goal.returns
returns c = record { law = replies_shut }
