use Rattle.std.proofs.Common.{◌≡◌, ◌++◌, drop}
use Rattle.sbe_layout.specs.Plans.{data_of}
use Rattle.sbe_layout.proofs.lay.data_plan.Given as goal

-- what is made, followed by what is left, is all
abbrev pub invariant-loop-d : goal.invariant-loop-d
invariant-loop-d l = l.plans.items ++ data_of (drop l.d-index l.vars) ≡ data_of l.vars
