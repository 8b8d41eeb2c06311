use Rattle.std.proofs.Common.{◌≡◌, length, drop}
use Rattle.sbe_value.specs.Views.{groups_of, blocks_of}
use Rattle.sbe_value.specs.Equal.{groups_eq, blocks_eq}
use Rattle.sbe_value.proofs.tree.+comparing.Given as goal

abbrev pub invariant-are_same_groups-loop-i : goal.invariant-are_same_groups-loop-i
invariant-are_same_groups-loop-i l =
    (length l.a ≡ length l.b) × (groups_eq (groups_of (drop l.i l.a)) (groups_of (drop l.i l.b)) ≡ groups_eq (groups_of l.a) (groups_of l.b))

abbrev pub invariant-are_same_blocks-loop-i : goal.invariant-are_same_blocks-loop-i
invariant-are_same_blocks-loop-i l =
    (length l.a ≡ length l.b) × (blocks_eq (blocks_of (drop l.i l.a)) (blocks_of (drop l.i l.b)) ≡ blocks_eq (blocks_of l.a) (blocks_of l.b))
