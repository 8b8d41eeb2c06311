-- The law, as it is proved of its definition.
use Rattle.plan_lines.proofs.OneReading.{one_reading}
use Rattle.plan_lines.proofs.laws.one_reading.Goals as goal

pub returns : goal.returns
returns c = record { law = one_reading }
