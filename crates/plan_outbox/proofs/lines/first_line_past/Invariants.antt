use Rattle.std.proofs.Common.{length}
use Rattle.text_words.specs.Lines.{lines_in}
use Rattle.plan_outbox.specs.Progress.{HaveTaken}
use Rattle.plan_outbox.proofs.lines.first_line_past.Given as goal

abbrev pub invariant-loop-line : goal.invariant-loop-line
invariant-loop-line l = HaveTaken l.fn.left l.finished l.text l.rest l.left l.count

abbrev pub decreases-loop-line : goal.decreases-loop-line
decreases-loop-line l = length (lines_in l.rest)
