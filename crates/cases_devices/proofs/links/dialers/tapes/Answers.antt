use Rattle.cases_devices.proofs.Unused.{one_more_unused}
use Rattle.cases_devices.proofs.links.dialers.tapes.Goals as goal

pub loop-word-preserved : goal.loop-word-preserved
loop-word-preserved c = rw c.in_ok-push.ensures.items (one_more_unused _ _ _ _ _ c.loop-word.invariant c.in_ok-without_faults.ensures)
