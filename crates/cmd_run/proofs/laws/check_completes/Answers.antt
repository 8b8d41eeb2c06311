use Rattle.cmd_run.proofs.Completing.{check_completes}
use Rattle.cmd_run.proofs.laws.check_completes.Goals as goal

pub returns : goal.returns
returns c = check_completes
