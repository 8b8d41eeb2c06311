use Rattle.std.proofs.Common.{◌≡◌, ◌++◌, drop}
use Rattle.sbe_layout.specs.Plans.{items_of_fields}
use Rattle.sbe_layout.proofs.lay.items_plan.Given as goal

-- what is made, followed by what is left, is all
abbrev pub invariant-loop-f : goal.invariant-loop-f
invariant-loop-f l = l.items.items ++ items_of_fields l.types.index.schema.now.types l.end (drop l.f-index l.fields) ≡ items_of_fields l.types.index.schema.now.types 0 l.fields
