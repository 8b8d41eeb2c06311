use Rattle.life_laws.proofs.BusinessPlans.{continues_goes_on}
use Rattle.life_laws.proofs.answers.continues_goes_on.Goals as goal

pub returns : goal.returns
returns c = record { law = continues_goes_on }
