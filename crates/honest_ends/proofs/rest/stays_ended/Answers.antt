use Rattle.honest_ends.proofs.RestLaws.{stays_ended}
use Rattle.honest_ends.proofs.rest.stays_ended.Goals as goal

pub returns : goal.returns
returns c = record { law = stays_ended }
