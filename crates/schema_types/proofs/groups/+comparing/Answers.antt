use Rattle.std.proofs.Common.{sym}
use Rattle.schema_types.proofs.Rows.{tree_eq-lengths}
use Rattle.schema_types.proofs.groups.+comparing.Goals as goal

pub are_same_groups-returns-then-a-b : goal.are_same_groups-returns-then-a-b
are_same_groups-returns-then-a-b t c = sym (tree_eq-lengths _ _ c.if-a-b.true)
