use Rattle.std.specs.List.{AllByRecursion}
use Rattle.jr_record.specs.Records.{IsRecord}
use Rattle.cases_journals.proofs.bench.messages.Given as goal

abbrev pub invariant-loop-number : goal.invariant-loop-number
invariant-loop-number l = AllByRecursion IsRecord l.records.items
