-- The law, as it is proved of its definition.
use Rattle.plan_lines.proofs.StrictPlanned.{strict_is_planned}
use Rattle.plan_lines.proofs.laws.strict_is_planned.Goals as goal

pub returns : goal.returns
returns c = record { law = strict_is_planned }
