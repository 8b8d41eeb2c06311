use Rattle.std.specs.List.{AllByRecursion}
use Rattle.jr_record.specs.Records.{IsRecord}
use Rattle.cases_journals.proofs.noted.records.Given as goal

abbrev pub invariant-loop-noted : goal.invariant-loop-noted
invariant-loop-noted l = AllByRecursion IsRecord l.records.items
