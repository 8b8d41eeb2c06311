use Rattle.drain_ends.proofs.Shut.{calls_shut}
use Rattle.drain_ends.proofs.shutting.calls_shut.Goals as goal

pub returns : goal.returns
returns c = record { law = calls_shut }
