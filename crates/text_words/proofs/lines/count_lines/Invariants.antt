use Rattle.std.proofs.Common.{◌≡◌, ◌+◌, length}
use Rattle.text_words.specs.Lines.{lines_in}
use Rattle.text_words.proofs.lines.count_lines.Given as goal

abbrev pub decreases-loop-rest : goal.decreases-loop-rest
decreases-loop-rest l = length (lines_in l.left)

-- the lines that are counted and those that are left are all
abbrev pub invariant-loop-rest : goal.invariant-loop-rest
invariant-loop-rest l = l.count + length (lines_in l.left) ≡ length (lines_in l.text)
