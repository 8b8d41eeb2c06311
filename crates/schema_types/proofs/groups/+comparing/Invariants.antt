use Rattle.std.proofs.Common.{◌≡◌, length, drop}
use Rattle.schema_types.specs.Views.{groups_of}
use Rattle.schema_types.specs.TreeEqual.{tree_eq}
use Rattle.schema_types.proofs.groups.+comparing.Given as goal

abbrev pub invariant-are_same_groups-loop-i : goal.invariant-are_same_groups-loop-i
invariant-are_same_groups-loop-i l =
    (length l.a ≡ length l.b) × (tree_eq (groups_of (drop l.i l.a)) (groups_of (drop l.i l.b)) ≡ tree_eq (groups_of l.a) (groups_of l.b))
