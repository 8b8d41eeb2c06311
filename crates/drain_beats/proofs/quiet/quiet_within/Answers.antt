use Rattle.drain_beats.proofs.Resting.{quiet_within}
use Rattle.drain_beats.proofs.quiet.quiet_within.Goals as goal

pub returns : goal.returns
returns c = record { law = quiet_within }
