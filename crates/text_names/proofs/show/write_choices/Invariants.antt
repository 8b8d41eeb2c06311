use Rattle.std.proofs.Common.{◌≡◌, ◌++◌, [], drop}
use Rattle.text_names.specs.Named.{choices_in, joined}
use Rattle.text_names.proofs.show.write_choices.Given as goal

-- what is written, followed by the names that are left, is all
abbrev pub invariant-loop-b : goal.invariant-loop-b
invariant-loop-b l = l.lines.items ++ joined l.bar (choices_in (drop l.b-index l.bits) l.number) ≡ l.initial.lines.items ++ joined [] (choices_in l.bits l.number)
