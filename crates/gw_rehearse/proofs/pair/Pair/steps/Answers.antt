use Rattle.gw_rehearse.proofs.Together.{stays_on}
use Rattle.gw_rehearse.proofs.Staying.{stays_if}
use Rattle.gw_rehearse.proofs.pair.Pair.steps.Goals as goal

pub loop-step-preserved : goal.loop-step-preserved
loop-step-preserved g c = stays_on _ _ _ c.loop-step.invariant c.in_ok-pair.ensures.stays

pub returns : goal.returns
returns g c = record { stays = stays_if _ c.in_ok-step.field-0 c.step-3.result (stays_on _ _ _ c.loop-step.invariant c.in_ok-step.ensures.stays) c.step-3.ensures.stays }
