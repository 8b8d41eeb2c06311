use Rattle.std.proofs.Common.{ℕ, List, length}
use Rattle.conn_told.specs.Progress.{HasSaid, Reads}
use Rattle.conn_told.proofs.lines.add_read.Given as goal

abbrev pub invariant-loop-found : goal.invariant-loop-found
invariant-loop-found l = record {
  goes : (pushed read : List ℕ) → Reads read l.fn.reader (HasSaid l.plan pushed l.fn.text.items) → Reads read l.reader (HasSaid l.plan pushed l.text.items);
}

abbrev pub decreases-loop-found : goal.decreases-loop-found
decreases-loop-found l = length l.reader.waiting
