-- The law, as it is proved of its definition.
use Rattle.plan_outbox.proofs.Excluding.{past_excludes}
use Rattle.plan_outbox.proofs.laws.past_excludes.Goals as goal

pub returns : goal.returns
returns c = record { law = past_excludes }
