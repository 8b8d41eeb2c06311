-- The groups of an entry weigh less than the list that their group stands in.
use Rattle.std.specs.Prelude.{◌≤◌, max, List, [], ◌∷◌}
use Rattle.std.proofs.Common.{arith}
use denote.Param.Weighed.{most}
use Rattle.sbe_layout.specs.declared.blocks.GroupPlan.{GroupPlan}
use Rattle.sbe_layout.specs.declared.blocks.GroupPlans.TheDeep.{deep-GroupPlan}
use Rattle.sbe_layout.specs.Trees.{weight_of}
use Rattle.sbe_layout.specs.Views.{plans_of}

plan_falls : (gs : List GroupPlan) → most deep-GroupPlan gs ≤ weight_of (plans_of gs)
plan_falls [] = omega arith
plan_falls (g ∷ gs) = omega (arith, plan_falls gs)

pub plans_fall : (gs : List GroupPlan) → max (most deep-GroupPlan gs) 0 ≤ weight_of (plans_of gs)
plans_fall gs = omega (arith, plan_falls gs)
