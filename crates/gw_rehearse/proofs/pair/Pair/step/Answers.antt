use Rattle.gw_rehearse.proofs.Staying.{stays_if}
use Rattle.gw_rehearse.proofs.pair.Pair.step.Goals as goal

pub returns-in_ok-pair-in-Burst : goal.returns-in_ok-pair-in-Burst
returns-in_ok-pair-in-Burst g c = record { stays = stays_if _ c.in_ok-pair-in-Burst.pair c.stop_due.result c.in_ok-pair-in-Burst.ensures.stays c.stop_due.ensures.stays }

pub returns-in_ok-pair-in-Rounds : goal.returns-in_ok-pair-in-Rounds
returns-in_ok-pair-in-Rounds g c = record { stays = stays_if _ c.in_ok-pair-in-Rounds.pair c.stop_due-in-Rounds.result c.in_ok-pair-in-Rounds.ensures.stays c.stop_due-in-Rounds.ensures.stays }

pub returns-in-Cut : goal.returns-in-Cut
returns-in-Cut g c = record { stays = stays_if _ c.cut.new.self c.stop_due-in-Cut.result c.cut.ensures.stays c.stop_due-in-Cut.ensures.stays }
