use Rattle.std.proofs.Common.{◌≡◌, ◌++◌, drop}
use Rattle.layout_text.specs.Lines.{lines_of_data}
use Rattle.layout_text.proofs.lines.write_data.Given as goal

-- what is written, followed by the lines that are left, is all
abbrev pub invariant-loop-datum : goal.invariant-loop-datum
invariant-loop-datum l = l.lines ++ lines_of_data l.before (drop l.datum-index l.vars) ≡ l.initial.lines ++ lines_of_data l.before l.vars
