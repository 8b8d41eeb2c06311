use Rattle.cmd_run.proofs.Completing.{encode_completes}
use Rattle.cmd_run.proofs.laws.encode_completes.Goals as goal

pub returns : goal.returns
returns c = encode_completes
