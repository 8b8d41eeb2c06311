use Rattle.drain_ends.proofs.Doing.{something_to_do}
use Rattle.drain_ends.proofs.acting.something_to_do.Goals as goal

pub returns : goal.returns
returns c = record { law = something_to_do }
