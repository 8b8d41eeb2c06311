use Rattle.cmd_run.proofs.Formatting.{format_completes}
use Rattle.cmd_run.proofs.laws.format_completes.Goals as goal

pub returns : goal.returns
returns g c = format_completes g.D.Disk.told g.D.Disk.may_leave g.D.Disk.faults
