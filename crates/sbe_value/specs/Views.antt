-- A list of groups or of blocks, as the lists that hold one another.
use Rattle.std.specs.Prelude.{List, [], ◌∷◌}
use Rattle.sbe_value.specs.declared.tree.Group.{Group}
use Rattle.sbe_value.specs.declared.tree.Group.TheVariants.{Absent, Entries}
use Rattle.sbe_value.specs.declared.tree.Block.{Block}
use Rattle.sbe_value.specs.Trees.{GroupList, BlockList, no_groups, absent, entries, no_blocks, block}

abbrev pub groups_of : List Group → GroupList
groups_of [] = no_groups
groups_of (Absent ∷ gs) = absent (groups_of gs)
groups_of (Entries bs ∷ gs) = entries bs (groups_of gs)

abbrev pub blocks_of : List Block → BlockList
blocks_of [] = no_blocks
blocks_of (b ∷ bs) = block b.items b.groups b.vars (blocks_of bs)
