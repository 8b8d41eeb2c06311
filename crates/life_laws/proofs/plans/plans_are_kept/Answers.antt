use Rattle.life_laws.proofs.Planned.{plans_are_kept}
use Rattle.life_laws.proofs.plans.plans_are_kept.Goals as goal

pub returns : goal.returns
returns c = record { law = plans_are_kept }
