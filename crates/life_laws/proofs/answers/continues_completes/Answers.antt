use Rattle.life_laws.proofs.BusinessPlans.{continues_completes}
use Rattle.life_laws.proofs.answers.continues_completes.Goals as goal

pub returns : goal.returns
returns c = record { law = continues_completes }
