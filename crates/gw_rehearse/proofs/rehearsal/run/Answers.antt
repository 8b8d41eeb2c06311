use Rattle.gw_rehearse.proofs.Together.{stays_on}
use Rattle.gw_rehearse.proofs.rehearsal.run.Goals as goal

pub returns-then-not-is_over-clause-stays : goal.returns-then-not-is_over-clause-stays
returns-then-not-is_over-clause-stays g c = stays_on _ _ _ c.in_ok-pair.ensures.stays c.in-Ok.ensures.stays

pub returns-clause-stays : goal.returns-clause-stays
returns-clause-stays g c = stays_on _ _ _ (stays_on _ _ _ c.in_ok-pair.ensures.stays c.in-Ok.ensures.stays) c.has_sent-done.ensures.stays
