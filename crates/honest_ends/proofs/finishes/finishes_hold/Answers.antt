use Rattle.honest_ends.proofs.FinishLaws.{finishes_hold}
use Rattle.honest_ends.proofs.finishes.finishes_hold.Goals as goal

pub returns : goal.returns
returns c = record { law = finishes_hold }
