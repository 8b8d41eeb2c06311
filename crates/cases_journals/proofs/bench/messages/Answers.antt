use Rattle.cases_journals.proofs.Legal.{all_push}
use Rattle.cases_journals.proofs.bench.messages.Goals as goal

pub loop-number-preserved : goal.loop-number-preserved
loop-number-preserved c = rw c.in_ok-push.ensures.items (all_push _ _ c.loop-number.invariant c.in_ok-message.ensures.legal)
