use Rattle.gw_rehearse.proofs.Staying.{stays_if}
use Rattle.gw_rehearse.proofs.pair.Pair.begin_stop.Goals as goal

pub returns : goal.returns
returns g c = record { stays = stays_if _ c.in_ok-pair.pair c.renew.result c.in_ok-pair.ensures.stays c.renew.ensures.stays }
