-- The law, as it is proved of its definition.
use Rattle.plan_lines.proofs.AsEncode.{reads_as_encode}
use Rattle.plan_lines.proofs.laws.reads_as_encode.Goals as goal

pub returns : goal.returns
returns c = record { law = reads_as_encode }
