use Rattle.cmd_run.proofs.Completing.{answer_completes}
use Rattle.cmd_run.proofs.laws.answer_completes.Goals as goal

pub returns : goal.returns
returns c = answer_completes
