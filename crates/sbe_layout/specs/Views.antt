-- A list of group plans, as the list that holds the groups of the entries.
use Rattle.std.specs.Prelude.{List, [], ◌∷◌}
use Rattle.sbe_layout.specs.declared.blocks.GroupPlan.{GroupPlan}
use Rattle.sbe_layout.specs.Trees.{PlanHead, PlanTree, no_plans, plan}

abbrev pub head_of : GroupPlan → PlanHead
head_of g = record {
  name = g.name;
  since = g.since;
  block_prim = g.block_prim;
  count_prim = g.count_prim;
  block_length = g.block.block_length;
  items = g.block.items;
  marks = g.block.marks;
  vars = g.block.vars;
}

abbrev pub plans_of : List GroupPlan → PlanTree
plans_of [] = no_plans
plans_of (g ∷ gs) = plan (head_of g) g.block.groups (plans_of gs)
