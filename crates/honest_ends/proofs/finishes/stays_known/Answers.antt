use Rattle.honest_ends.proofs.FinishLaws.{stays_known}
use Rattle.honest_ends.proofs.finishes.stays_known.Goals as goal

pub returns : goal.returns
returns c = record { law = stays_known }
