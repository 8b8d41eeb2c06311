use Rattle.drain_ends.proofs.Closed.{closing_to_do}
use Rattle.drain_ends.proofs.closing.closing_to_do.Goals as goal

pub returns : goal.returns
returns c = record { law = closing_to_do }
