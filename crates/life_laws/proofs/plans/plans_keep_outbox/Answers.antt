use Rattle.life_laws.proofs.Outboxes.{plans_keep_outbox}
use Rattle.life_laws.proofs.plans.plans_keep_outbox.Goals as goal

pub returns : goal.returns
returns c = record { law = plans_keep_outbox }
