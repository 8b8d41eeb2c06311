use Rattle.honest_ends.proofs.RestLaws.{all_is_equal}
use Rattle.honest_ends.proofs.rest.all_is_equal.Goals as goal

pub returns : goal.returns
returns c = record { law = all_is_equal }
