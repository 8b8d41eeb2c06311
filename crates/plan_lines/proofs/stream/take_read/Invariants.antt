use Rattle.std.proofs.Common.{◌≡◌, ℕ, List, length}
use Rattle.jr_record.specs.Records.{IsSender}
use Rattle.plan_lines.specs.Progress.{Reads, Stands}
use Rattle.plan_lines.proofs.stream.take_read.Given as goal

abbrev pub invariant-loop-found : goal.invariant-loop-found
invariant-loop-found l = record {
  sender : IsSender l.place.sender;
  form : l.place.form ≡ l.fn.place.form;
  goes : (pushed read : List ℕ) → Reads read l.fn.reader (Stands l.plan pushed l.fn.place) → Reads read l.reader (Stands l.plan pushed l.place);
}

abbrev pub decreases-loop-found : goal.decreases-loop-found
decreases-loop-found l = length l.reader.waiting
