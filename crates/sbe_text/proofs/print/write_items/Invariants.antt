use Rattle.std.proofs.Common.{◌≡◌, ◌++◌, drop}
use Rattle.sbe_text.specs.Written.{item_lines}
use Rattle.sbe_text.proofs.print.write_items.Given as goal

-- what is written, followed by the lines that are left, is all
abbrev pub invariant-loop-plan : goal.invariant-loop-plan
invariant-loop-plan l = l.lines.items ++ item_lines l.listings l.before l.left (drop l.plan-index l.plans) ≡ l.initial.lines.items ++ item_lines l.listings l.before l.items l.plans
