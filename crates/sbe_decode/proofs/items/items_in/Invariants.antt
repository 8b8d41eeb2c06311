use Rattle.std.proofs.Common.{◌≡◌, take}
use Rattle.sbe_grammar.specs.Values.{items_in}
use Rattle.sbe_decode.proofs.items.items_in.Given as goal

abbrev pub invariant-loop-plan : goal.invariant-loop-plan
invariant-loop-plan l = l.items.items ≡ items_in l.reading.order l.reading.version l.block (take l.plan-index l.plans)
