use Rattle.honest_ends.proofs.RestLaws.{over_has_all}
use Rattle.honest_ends.proofs.rest.over_has_all.Goals as goal

pub returns : goal.returns
returns c = record { law = over_has_all }
