use Rattle.honest_ends.proofs.PhaseSampled.{session_sample}
use Rattle.honest_ends.proofs.phases.session_sample.Goals as goal

pub returns : goal.returns
returns c = record { law = session_sample }
