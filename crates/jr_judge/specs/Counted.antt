-- The records of a box that were counted so far.
use Rattle.std.specs.Prelude.{ℕ, List, ⊤}
use Rattle.fixp_msgs.specs.declared.flow.Flow.TheVariants as flows
use Rattle.jr_record.specs.declared.record.Record.{Record}
use Rattle.jr_boxes.specs.declared.faults.Which.{Which}
use Rattle.jr_boxes.specs.declared.faults.Which.TheVariants.{Outbox, Inbox}
use Rattle.jr_boxes.specs.Tallies as tallies
use Rattle.jr_boxes.specs.Notes as notes
use Rattle.jr_judge.specs.declared.counted.Counted.{Counted}
use Rattle.jr_judge.specs.declared.counted.Counted.TheVariants as counts

-- the records are those of this box, and were counted
abbrev pub IsCounted : Which → List Record → Counted → Type 0
IsCounted Outbox records (counts.Outbox tally) = tallies.Counted records tally
IsCounted Outbox records (counts.Inbox noted) = ⊥
IsCounted Inbox records (counts.Outbox tally) = ⊥
IsCounted Inbox records (counts.Inbox noted) = notes.Noted flows.Idempotent records noted

-- no count of an outbox is above n
abbrev pub IsWithin : Counted → ℕ → Type 0
IsWithin (counts.Outbox tally) n = tallies.IsWithin tally n
IsWithin (counts.Inbox noted) n = ⊤
