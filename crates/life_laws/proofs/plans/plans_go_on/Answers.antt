use Rattle.life_laws.proofs.Lost.{plans_go_on}
use Rattle.life_laws.proofs.plans.plans_go_on.Goals as goal

pub returns : goal.returns
returns c = record { law = plans_go_on }
