use Rattle.std.proofs.Common.{rules}
use Rattle.sbe_value.proofs.Rows.{count_of_groups-groups_of}
use Rattle.sbe_value.proofs.tree.Groups.len.Goals as goal

pub returns : goal.returns
returns c = search (rules, count_of_groups-groups_of)
