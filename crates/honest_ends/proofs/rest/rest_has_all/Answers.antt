use Rattle.honest_ends.proofs.RestLaws.{rest_has_all}
use Rattle.honest_ends.proofs.rest.rest_has_all.Goals as goal

pub returns : goal.returns
returns c = record { law = rest_has_all }
