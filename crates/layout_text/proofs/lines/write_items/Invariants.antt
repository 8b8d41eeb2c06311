use Rattle.std.proofs.Common.{◌≡◌, ◌++◌, drop}
use Rattle.layout_text.specs.Lines.{lines_of_items}
use Rattle.layout_text.proofs.lines.write_items.Given as goal

-- what is written, followed by the lines that are left, is all
abbrev pub invariant-loop-item : goal.invariant-loop-item
invariant-loop-item l = l.lines ++ lines_of_items l.before (drop l.item-index l.items) ≡ l.initial.lines ++ lines_of_items l.before l.items
