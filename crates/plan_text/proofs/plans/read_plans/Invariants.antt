use Rattle.std.proofs.Common.{length}
use Rattle.text_words.specs.Lines.{lines_in}
use Rattle.plan_text.specs.Progress.{HaveRead}
use Rattle.plan_text.proofs.plans.read_plans.Given as goal

abbrev pub invariant-loop-line : goal.invariant-loop-line
invariant-loop-line l = HaveRead l.senders l.text l.left l.plans.items l.count

abbrev pub decreases-loop-line : goal.decreases-loop-line
decreases-loop-line l = length (lines_in l.left)
