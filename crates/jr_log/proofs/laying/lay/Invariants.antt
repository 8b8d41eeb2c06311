use Rattle.std.proofs.Common.{◌≡◌, length}
use Rattle.std.specs.List.{AllByRecursion}
use Rattle.jr_record.specs.Records.{IsRecord}
use Rattle.jr_log.specs.Fresh.{AllCleared}
use Rattle.jr_log.proofs.Written.{Laying}
use Rattle.jr_log.proofs.laying.lay.Given as goal

abbrev pub invariant-loop-rest : goal.invariant-loop-rest
invariant-loop-rest g l = record {
  legal : AllByRecursion IsRecord l.rest;
  cleared : AllCleared (g.D.Disk.may_leave l.disk);
  faults : g.D.Disk.faults l.disk ≡ g.D.Disk.faults l.fn.disk;
  laying : Laying (g.D.Disk.told l.disk) l.at l.piece l.rest l.records;
}

abbrev pub decreases-loop-rest : goal.decreases-loop-rest
decreases-loop-rest g l = length l.rest
