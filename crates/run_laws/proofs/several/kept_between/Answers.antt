use Rattle.run_laws.proofs.Holding.{kept_between}
use Rattle.run_laws.proofs.several.kept_between.Goals as goal

pub returns : goal.returns
returns g c = record { law = kept_between (g.D.Disk.told) (g.D.Disk.may_leave) }
