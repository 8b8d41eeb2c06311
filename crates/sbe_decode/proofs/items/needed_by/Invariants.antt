use Rattle.std.proofs.Common.{◌≡◌, max, drop}
use Rattle.sbe_grammar.specs.Reading.{needed_by}
use Rattle.sbe_decode.proofs.items.needed_by.Given as goal

-- the greater of what is needed so far and what the rest needs is what all need
abbrev pub invariant-loop-mark : goal.invariant-loop-mark
invariant-loop-mark l = max l.needed (needed_by l.version (drop l.mark-index l.marks)) ≡ needed_by l.version l.marks
