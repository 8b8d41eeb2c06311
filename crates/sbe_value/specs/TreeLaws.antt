-- The tests of equality of trees are true exactly of equal trees.
use Rattle.std.specs.Prelude.{◌≡◌, Bool, true, false, ◌&&◌, List, refl}
use Rattle.std.proofs.Common.{ap, Decides}
use Rattle.std.proofs.lemmas.Bool.{false≢true}
use Rattle.std.proofs.lemmas.Bool.Decides.{Decides-eqb}
use Rattle.std.specs.Cmp.Lexicographic.{pointwise, pointwise_decides}
use Rattle.sbe_value.specs.declared.item.Item.{Item}
use Rattle.sbe_value.specs.declared.datum.Datum.{Datum}
use Rattle.sbe_value.specs.declared.tree.Group.{Group}
use Rattle.sbe_value.specs.declared.tree.Group.TheVariants.{Absent, Entries}
use Rattle.sbe_value.specs.declared.tree.Block.{Block}
use Rattle.sbe_value.specs.declared.message.Message.{Message}
use Rattle.sbe_value.specs.Trees.{GroupList, BlockList, no_groups, absent, entries, no_blocks, block}
use Rattle.sbe_value.specs.Equal.{item_eq, datum_eq, groups_eq, blocks_eq, group_eq, block_eq, message_eq}
use Rattle.lists.specs.Exact.{exact}
use Rattle.sbe_value.specs.Laws.{item_exact, datum_exact}

-- two tests are both true exactly where their conjunction is
both : (a b : Bool) → a ≡ true → b ≡ true → (a && b) ≡ true
both true true p q = refl
both true false p q = absurd (false≢true q)
both false b p q = absurd (false≢true p)

left : (a b : Bool) → (a && b) ≡ true → a ≡ true
left true b p = refl
left false b p = absurd (false≢true p)

right : (a b : Bool) → (a && b) ≡ true → b ≡ true
right true true p = refl
right true false p = absurd (false≢true p)
right false b p = absurd (false≢true p)

items_exact : (x y : List Item) → Decides (pointwise item_eq x y) (x ≡ y)
items_exact = pointwise_decides item_exact

vars_exact : (x y : List Datum) → Decides (pointwise datum_eq x y) (x ≡ y)
vars_exact = pointwise_decides datum_exact

mutual
  groups_itself : (x : GroupList) → groups_eq x x ≡ true
  groups_itself no_groups = refl
  groups_itself (absent gs) = groups_itself gs
  groups_itself (entries bs gs) = both _ _ (blocks_itself bs) (groups_itself gs)

  blocks_itself : (x : BlockList) → blocks_eq x x ≡ true
  blocks_itself no_blocks = refl
  blocks_itself (block items gs vars bs) =
      both _ _ (both _ _ (both _ _ ((items_exact items items).1 refl) ((vars_exact vars vars).1 refl)) (groups_itself gs)) (blocks_itself bs)

mutual
  groups_only : (x y : GroupList) → groups_eq x y ≡ true → x ≡ y
  groups_only no_groups no_groups t = refl
  groups_only no_groups (absent hs) t = absurd (false≢true t)
  groups_only no_groups (entries cs hs) t = absurd (false≢true t)
  groups_only (absent gs) no_groups t = absurd (false≢true t)
  groups_only (absent gs) (absent hs) t = ap absent (groups_only gs hs t)
  groups_only (absent gs) (entries cs hs) t = absurd (false≢true t)
  groups_only (entries bs gs) no_groups t = absurd (false≢true t)
  groups_only (entries bs gs) (absent hs) t = absurd (false≢true t)
  groups_only (entries bs gs) (entries cs hs) t =
      λ i. entries (blocks_only bs cs (left _ _ t) i) (groups_only gs hs (right (blocks_eq bs cs) _ t) i)

  blocks_only : (x y : BlockList) → blocks_eq x y ≡ true → x ≡ y
  blocks_only no_blocks no_blocks t = refl
  blocks_only no_blocks (block js hs ws cs) t = absurd (false≢true t)
  blocks_only (block items gs vars bs) no_blocks t = absurd (false≢true t)
  blocks_only (block items gs vars bs) (block js hs ws cs) t =
      let lists = (pointwise item_eq items js && pointwise datum_eq vars ws) in
      let heads = lists && groups_eq gs hs in
      λ i. block ((items_exact items js).0 (left _ _ (left lists _ (left heads _ t))) i) (groups_only gs hs (right lists _ (left heads _ t)) i)
      ((vars_exact vars ws).0 (right (pointwise item_eq items js) _ (left lists _ (left heads _ t))) i) (blocks_only bs cs (right heads _ t) i)

pub groups_exact : (x y : GroupList) → Decides (groups_eq x y) (x ≡ y)
groups_exact = exact groups_eq groups_itself groups_only

pub blocks_exact : (x y : BlockList) → Decides (blocks_eq x y) (x ≡ y)
blocks_exact = exact blocks_eq blocks_itself blocks_only

group_itself : (x : Group) → group_eq x x ≡ true
group_itself Absent = refl
group_itself (Entries bs) = blocks_itself bs

group_only : (x y : Group) → group_eq x y ≡ true → x ≡ y
group_only Absent Absent t = refl
group_only (Entries bs) (Entries cs) t = ap Entries (blocks_only bs cs t)
group_only _ _ t = absurd (false≢true t)

pub group_exact : (x y : Group) → Decides (group_eq x y) (x ≡ y)
group_exact = exact group_eq group_itself group_only

block_itself : (x : Block) → block_eq x x ≡ true
block_itself x =
    both _ _ (both _ _ ((items_exact x.items x.items).1 refl) ((vars_exact x.vars x.vars).1 refl)) (groups_itself x.groups)

block_only : (x y : Block) → block_eq x y ≡ true → x ≡ y
block_only x y t =
    let lists = (pointwise item_eq x.items y.items && pointwise datum_eq x.vars y.vars) in
    λ i. record {
      items = (items_exact x.items y.items).0 (left _ _ (left lists _ t)) i;
      groups = groups_only x.groups y.groups (right lists _ t) i;
      vars = (vars_exact x.vars y.vars).0 (right (pointwise item_eq x.items y.items) _ (left lists _ t)) i;
    }

pub block_exact : (x y : Block) → Decides (block_eq x y) (x ≡ y)
block_exact = exact block_eq block_itself block_only

message_itself : (x : Message) → message_eq x x ≡ true
message_itself x = both _ _ ((Decides-eqb x.template x.template).1 refl) (block_itself x.root)

message_only : (x y : Message) → message_eq x y ≡ true → x ≡ y
message_only x y t =
    λ i. record {
      template = (Decides-eqb x.template y.template).0 (left _ _ t) i;
      root = block_only x.root y.root (right _ _ t) i;
    }

pub message_exact : (x y : Message) → Decides (message_eq x y) (x ≡ y)
message_exact = exact message_eq message_itself message_only
