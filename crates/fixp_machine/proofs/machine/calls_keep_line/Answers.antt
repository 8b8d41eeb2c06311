use Rattle.fixp_machine.proofs.LineCalls.{calls_keep_line}
use Rattle.fixp_machine.proofs.machine.calls_keep_line.Goals as goal

pub returns : goal.returns
returns c = record { law = calls_keep_line }
