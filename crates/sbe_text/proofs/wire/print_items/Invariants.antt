use Rattle.std.proofs.Common.{◌≡◌, ◌++◌, drop}
use Rattle.sbe_grammar.specs.Values.{items_in}
use Rattle.sbe_text.specs.Written.{item_lines}
use Rattle.sbe_text.proofs.wire.print_items.Given as goal

-- what is written, followed by the lines that are left, is all
abbrev pub invariant-loop-plan : goal.invariant-loop-plan
invariant-loop-plan l =
    l.lines.items ++ item_lines l.listings l.before (items_in l.reading.order l.reading.version l.block (drop l.plan-index l.plans)) (drop l.plan-index l.plans) ≡ l.fn.lines.items ++ item_lines l.listings l.before (items_in l.reading.order l.reading.version l.block l.plans) l.plans
