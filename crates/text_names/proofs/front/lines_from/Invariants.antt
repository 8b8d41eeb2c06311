use Rattle.std.proofs.Common.{◌≡◌, ◌-◌, length}
use Rattle.text_words.specs.Lines.{lines_in}
use Rattle.text_names.proofs.front.lines_from.Given as goal

abbrev pub decreases-loop-before : goal.decreases-loop-before
decreases-loop-before l = l.before

-- the lines that are left, without those that are still to be passed
abbrev pub invariant-loop-before : goal.invariant-loop-before
invariant-loop-before l = length (lines_in l.left) - l.before ≡ length (lines_in l.text) - (l.number - 1)
