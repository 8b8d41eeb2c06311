use Rattle.std.proofs.Common.{◌≡◌, drop}
use Rattle.text_words.specs.Lines.{lines_in}
use Rattle.sbe_from_text.proofs.Parts.{data_left}
use Rattle.sbe_from_text.proofs.items.write_data.Given as goal

-- the bytes of the data that are left stand behind those that are written
abbrev pub invariant-loop-plan : goal.invariant-loop-plan
invariant-loop-plan l =
    data_left l.order l.before l.out.items (drop l.plan-index l.plans) (lines_in l.left) ≡ data_left l.order l.before l.fn.out.items l.plans (lines_in l.fn.left)
