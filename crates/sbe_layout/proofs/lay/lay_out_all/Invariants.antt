use Rattle.std.proofs.Common.{◌≡◌, ◌++◌, drop}
use Rattle.sbe_layout.specs.Plans.{message_plans}
use Rattle.sbe_layout.proofs.lay.lay_out_all.Given as goal

-- what is made, followed by what is left, is all
abbrev pub invariant-loop-m : goal.invariant-loop-m
invariant-loop-m l = l.messages.items ++ message_plans l.types.index.schema.now.types (drop l.m-index l.m-items) ≡ message_plans l.types.index.schema.now.types l.m-items
