use Rattle.honest_ends.proofs.PhaseSampled.{versions_sample}
use Rattle.honest_ends.proofs.phases.versions_sample.Goals as goal

pub returns : goal.returns
returns c = record { law = versions_sample }
