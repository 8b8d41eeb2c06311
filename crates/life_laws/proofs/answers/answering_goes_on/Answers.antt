use Rattle.life_laws.proofs.BusinessPlans.{answering_goes_on}
use Rattle.life_laws.proofs.answers.answering_goes_on.Goals as goal

pub returns : goal.returns
returns c = record { law = answering_goes_on }
