-- A child of a list of groups or of blocks weighs less than the list.
use Rattle.std.specs.Prelude.{◌≤◌, max, List, [], ◌∷◌}
use Rattle.std.proofs.Common.{arith}
use denote.Param.Weighed.{most}
use Rattle.sbe_value.specs.declared.tree.Group.{Group}
use Rattle.sbe_value.specs.declared.tree.Group.TheVariants.{Absent, Entries}
use Rattle.sbe_value.specs.declared.tree.Block.{Block}
use Rattle.sbe_value.specs.declared.tree.Blocks.TheDeep.{deep-Group, deep-Block}
use Rattle.sbe_value.specs.Trees.{weight_of_groups, weight_of_blocks}
use Rattle.sbe_value.specs.Views.{groups_of, blocks_of}

group_falls : (gs : List Group) → most deep-Group gs ≤ weight_of_groups (groups_of gs)
group_falls [] = omega arith
group_falls (Absent ∷ gs) = omega (arith, group_falls gs)
group_falls (Entries bs ∷ gs) = omega (arith, group_falls gs)

block_falls : (bs : List Block) → most deep-Block bs ≤ weight_of_blocks (blocks_of bs)
block_falls [] = omega arith
block_falls (b ∷ bs) = omega (arith, block_falls bs)

pub groups_fall : (gs : List Group) → max (most deep-Group gs) 0 ≤ weight_of_groups (groups_of gs)
groups_fall gs = omega (arith, group_falls gs)

pub blocks_fall : (bs : List Block) → max (most deep-Block bs) 0 ≤ weight_of_blocks (blocks_of bs)
blocks_fall bs = omega (arith, block_falls bs)
