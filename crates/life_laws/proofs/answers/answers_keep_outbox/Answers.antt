use Rattle.life_laws.proofs.BusinessPlans.{answers_keep_outbox}
use Rattle.life_laws.proofs.answers.answers_keep_outbox.Goals as goal

pub returns : goal.returns
returns c = record { law = answers_keep_outbox }
