use Rattle.cmd_run.proofs.Completing.{decode_completes}
use Rattle.cmd_run.proofs.laws.decode_completes.Goals as goal

pub returns : goal.returns
returns c = decode_completes
