use Rattle.std.proofs.Common.{◌≡◌, drop}
use Rattle.text_words.specs.Lines.{lines_in}
use Rattle.sbe_text.specs.Read.{read_each}
use Rattle.sbe_text.specs.Reading.{read_datum}
use Rattle.sbe_text.proofs.Made.{before}
use Rattle.sbe_text.proofs.parse.read_data.Given as goal

-- what is read, in front of what is left, is all
abbrev pub invariant-loop-plan : goal.invariant-loop-plan
invariant-loop-plan l =
    before l.«data».items (read_each (read_datum l.before) (drop l.plan-index l.plans) (lines_in l.left)) ≡ read_each (read_datum l.before) l.plans (lines_in l.initial.left)
