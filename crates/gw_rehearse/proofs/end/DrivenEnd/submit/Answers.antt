use Rattle.gw_rehearse.proofs.Together.{finds_none, finds_on}
use Rattle.gw_rehearse.proofs.end.DrivenEnd.submit.Goals as goal

pub returns-in-Refused-clause-finds : goal.returns-in-Refused-clause-finds
returns-in-Refused-clause-finds g c = finds_none _ _ c.submit_plans.ensures.same

pub returns-in-All-clause-finds : goal.returns-in-All-clause-finds
returns-in-All-clause-finds g c = finds_on _ _ _ c.submit_plans.ensures.same c.see_mark.ensures.same c.see_mark.ensures.seen
