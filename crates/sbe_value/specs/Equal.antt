-- Which values are equal, as tests that compute. Each is true exactly of equal values.
use Rattle.std.specs.Prelude.{Bool, true, false, ◌==◌, ◌&&◌, nat_eq}
use Rattle.std.specs.Ordering.{int_eq}
use Rattle.std.specs.Cmp.Lexicographic.{pointwise}
use Rattle.sbe_value.specs.declared.item.Item.{Item}
use Rattle.sbe_value.specs.declared.item.Item.TheVariants.{Num, Null, Text, Raw, Absent as NoItem}
use Rattle.sbe_value.specs.declared.path.Step.{Step}
use Rattle.sbe_value.specs.declared.path.Step.TheVariants.{Key, At}
use Rattle.sbe_value.specs.declared.tree.Group.{Group}
use Rattle.sbe_value.specs.declared.tree.Group.TheVariants.{Entries, Absent as NoGroup}
use Rattle.sbe_value.specs.declared.tree.Block.{Block}
use Rattle.sbe_value.specs.declared.message.Message.{Message}
use Rattle.sbe_value.specs.Trees.{GroupList, BlockList, no_groups, absent, entries, no_blocks, block}
use Rattle.sbe_value.specs.declared.datum.Datum.{Datum}
use Rattle.sbe_value.specs.declared.datum.Datum.TheVariants.{Present, Absent as NoDatum}

abbrev pub item_eq : Item → Item → Bool
item_eq (Num a) (Num b) = int_eq a b
item_eq Null Null = true
item_eq NoItem NoItem = true
item_eq (Text a) (Text b) = pointwise nat_eq a b
item_eq (Raw a) (Raw b) = pointwise nat_eq a b
item_eq _ _ = false

abbrev pub datum_eq : Datum → Datum → Bool
datum_eq NoDatum NoDatum = true
datum_eq (Present a) (Present b) = pointwise nat_eq a b
datum_eq _ _ = false

abbrev pub step_eq : Step → Step → Bool
step_eq (Key a) (Key b) = pointwise nat_eq a b
step_eq (At a) (At b) = a == b
step_eq _ _ = false

abbrev mutual
  pub groups_eq : GroupList → GroupList → Bool
  groups_eq no_groups no_groups = true
  groups_eq no_groups (absent hs) = false
  groups_eq no_groups (entries cs hs) = false
  groups_eq (absent gs) no_groups = false
  groups_eq (absent gs) (absent hs) = groups_eq gs hs
  groups_eq (absent gs) (entries cs hs) = false
  groups_eq (entries bs gs) no_groups = false
  groups_eq (entries bs gs) (absent hs) = false
  groups_eq (entries bs gs) (entries cs hs) = blocks_eq bs cs && groups_eq gs hs

  pub blocks_eq : BlockList → BlockList → Bool
  blocks_eq no_blocks no_blocks = true
  blocks_eq no_blocks (block js hs ws cs) = false
  blocks_eq (block items gs vars bs) no_blocks = false
  blocks_eq (block items gs vars bs) (block js hs ws cs) =
      ((pointwise item_eq items js && pointwise datum_eq vars ws) && groups_eq gs hs) && blocks_eq bs cs

abbrev pub group_eq : Group → Group → Bool
group_eq NoGroup NoGroup = true
group_eq (Entries bs) (Entries cs) = blocks_eq bs cs
group_eq _ _ = false

abbrev pub block_eq : Block → Block → Bool
block_eq b c = (pointwise item_eq b.items c.items && pointwise datum_eq b.vars c.vars) && groups_eq b.groups c.groups

abbrev pub message_eq : Message → Message → Bool
message_eq m n = m.template == n.template && block_eq m.root n.root
