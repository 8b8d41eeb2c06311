use Rattle.gw_rehearse.proofs.Together.{stays_on}
use Rattle.gw_rehearse.proofs.pair.Pair.run.Goals as goal

pub returns-in-Ok-rounds : goal.returns-in-Ok-rounds
returns-in-Ok-rounds g c = record { stays = stays_on _ _ _ c.in-Ok.ensures.stays (stays_on _ _ _ c.in_ok-pair.ensures.stays c.in-Ok-rounds.ensures.stays) }
