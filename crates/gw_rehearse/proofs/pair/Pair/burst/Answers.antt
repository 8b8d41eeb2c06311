use Rattle.gw_rehearse.proofs.Together.{stays_on}
use Rattle.gw_rehearse.proofs.Staying.{stays_if}
use Rattle.gw_rehearse.proofs.pair.Pair.burst.Goals as goal

pub returns-in-Ok-true : goal.returns-in-Ok-true
returns-in-Ok-true g c = record { stays = stays_if _ c.submit.new.self c.run.result c.in-Ok-true.ensures.stays c.run.ensures.stays }

pub returns-in_ok-stop_pending-in-Ok-false : goal.returns-in_ok-stop_pending-in-Ok-false
returns-in_ok-stop_pending-in-Ok-false g c =
    let stopped = c.in_ok-stop_pending-in-Ok-false in
    record { stays = stays_if _ stopped.field-0 c.run-in-Ok-false.result (stays_on _ _ _ c.in-Ok-false.ensures.stays stopped.ensures.stays) c.run-in-Ok-false.ensures.stays }
