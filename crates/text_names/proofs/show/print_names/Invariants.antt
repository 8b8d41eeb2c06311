use Rattle.std.proofs.Common.{◌≡◌, ◌++◌, length}
use Rattle.std.specs.Option.{option_copied}
use Rattle.text_words.specs.Lines.{lines_in}
use Rattle.text_names.specs.Named.{named_lines, named_text}
use Rattle.text_names.proofs.show.print_names.Given as goal

abbrev pub decreases-loop-line : goal.decreases-loop-line
decreases-loop-line l = length (lines_in l.left)

-- what is written, and the lines that are left, is all
abbrev pub invariant-loop-line : goal.invariant-loop-line
invariant-loop-line l =
    l.lines.items ++ named_lines l.plan (option_copied l.layout) (lines_in l.left) ≡ l.initial.lines.items ++ named_text l.plan (lines_in l.strict)
