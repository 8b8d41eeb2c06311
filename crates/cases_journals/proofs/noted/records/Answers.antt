use Rattle.cases_journals.proofs.Legal.{all_push}
use Rattle.cases_journals.proofs.noted.records.Goals as goal

pub loop-noted-preserved : goal.loop-noted-preserved
loop-noted-preserved c = rw c.in_ok-push.ensures.items (all_push _ _ c.loop-noted.invariant c.in_ok-record.ensures.legal)
