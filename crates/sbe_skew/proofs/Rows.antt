-- The lists of groups and of entries are made of their trees, and make them again.
use Rattle.std.proofs.Common.{◌≡◌, refl, ap}
use Rattle.sbe_value.specs.Trees.{GroupList, BlockList, no_groups, absent, entries, no_blocks, block}
use Rattle.sbe_value.specs.Views.{groups_of, blocks_of}
use Rattle.schema_types.specs.Groups.{GroupTree, group, no_groups as no_defs}
use Rattle.schema_types.specs.Views.{groups_of as schema_groups_of}
use Rattle.sbe_skew.specs.Projected.{list_of_defs}
use Rattle.sbe_skew.specs.Restricted.{list_of_groups, list_of_blocks}

pub groups_back : (gs : GroupList) → groups_of (list_of_groups gs) ≡ gs
groups_back no_groups = refl
groups_back (absent gs) = ap absent (groups_back gs)
groups_back (entries bs gs) = ap (entries bs) (groups_back gs)

pub blocks_back : (bs : BlockList) → blocks_of (list_of_blocks bs) ≡ bs
blocks_back no_blocks = refl
blocks_back (block is gs vs bs) = ap (block is gs vs) (blocks_back bs)

pub defs_back : (gs : GroupTree) → schema_groups_of (list_of_defs gs) ≡ gs
defs_back no_defs = refl
defs_back (group g inner rest) = ap (group g inner) (defs_back rest)
