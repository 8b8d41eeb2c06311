use Rattle.std.proofs.Common.{◌-◌, ◌<◌, ap, arith}
use Rattle.schema_types.specs.Groups.{weight_of}
use Rattle.schema_types.specs.Views.{groups_of}
use Rattle.sbe_schema.proofs.Trees.{weight_at}
use Rattle.sbe_schema.proofs.rules.+count_of_groups.Goals as goal

pub count_of_groups-requires : goal.count_of_groups-requires
count_of_groups-requires t c =
    let lighter : weight_of c.index-groups-i.result.groups < weight_of (groups_of c.args.groups.now) =
    weight_at c.args.groups.now (c.loop-i.i - 1) c.index-groups-i.result (omega arith) c.index-groups-i.is in
    let same = ap weight_of c.as_slice-in-loop-i-2.ensures in
    (omega (arith, c.decreases, lighter, same), tt)
