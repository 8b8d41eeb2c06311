use Rattle.cmd_run.proofs.Moving.{migrate_completes}
use Rattle.cmd_run.proofs.laws.migrate_completes.Goals as goal

pub returns : goal.returns
returns g c = migrate_completes g.D.Disk.told g.D.Disk.may_leave g.D.Disk.faults
