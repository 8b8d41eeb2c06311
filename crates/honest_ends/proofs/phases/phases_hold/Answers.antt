use Rattle.honest_ends.proofs.Phased.{phases_hold}
use Rattle.honest_ends.proofs.phases.phases_hold.Goals as goal

pub returns : goal.returns
returns c = record { law = phases_hold }
