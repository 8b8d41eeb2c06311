use Rattle.life_laws.proofs.BusinessPlans.{answers_are_kept}
use Rattle.life_laws.proofs.answers.answers_are_kept.Goals as goal

pub returns : goal.returns
returns c = record { law = answers_are_kept }
