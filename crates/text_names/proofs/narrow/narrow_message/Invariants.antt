use Rattle.std.proofs.Common.{◌≡◌, ◌+◌, length}
use Rattle.std.specs.Option.{option_copied}
use Rattle.text_words.specs.Lines.{lines_in}
use Rattle.text_names.specs.Lines.{narrowed, narrowed_message}
use Rattle.text_names.specs.Steps.{ahead}
use Rattle.text_names.proofs.narrow.narrow_message.Given as goal

abbrev pub decreases-loop-line : goal.decreases-loop-line
decreases-loop-line l = length (lines_in l.left)

-- what is kept, and what the lines that are left make, is all; each line has its number
abbrev pub invariant-loop-line : goal.invariant-loop-line
invariant-loop-line l =
    (narrowed_message l.plan (lines_in l.text) ≡ ahead l.out.text.items l.out.numbers.items (narrowed l.plan (option_copied l.layout) l.number (lines_in l.left)))
    × (l.number + length (lines_in l.left) ≡ 1 + length (lines_in l.text))
