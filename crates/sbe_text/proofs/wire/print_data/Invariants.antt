use Rattle.std.proofs.Common.{◌≡◌, drop}
use Rattle.sbe_text.proofs.Walked.{data_left}
use Rattle.sbe_text.proofs.wire.print_data.Given as goal

-- the lines of the data that are left stand behind those that are written
abbrev pub invariant-loop-plan : goal.invariant-loop-plan
invariant-loop-plan l =
    data_left l.reading.order l.reading.version l.reading.total l.before l.lines.items (drop l.plan-index l.plans) l.left ≡ data_left l.reading.order l.reading.version l.reading.total l.before l.fn.lines.items l.plans l.fn.left
