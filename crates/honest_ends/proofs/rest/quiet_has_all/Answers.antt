use Rattle.honest_ends.proofs.RestLaws.{quiet_has_all}
use Rattle.honest_ends.proofs.rest.quiet_has_all.Goals as goal

pub returns : goal.returns
returns c = record { law = quiet_has_all }
