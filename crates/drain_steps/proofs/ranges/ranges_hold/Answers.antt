use Rattle.drain_steps.proofs.Ranging.{ranged_holds}
use Rattle.drain_steps.proofs.ranges.ranges_hold.Goals as goal

pub returns : goal.returns
returns c = record { law = ranged_holds }
