use Rattle.std.proofs.Common.{◌-◌, ◌<◌, ap, arith}
use Rattle.schema_types.specs.Groups.{weight_of}
use Rattle.schema_types.specs.Views.{groups_of}
use Rattle.sbe_schema.proofs.Trees.{weight_at}
use Rattle.sbe_schema.proofs.rules.+blocks_of_groups.Goals as goal

pub blocks_of_groups-inner-requires : goal.blocks_of_groups-inner-requires
blocks_of_groups-inner-requires t c =
    let lighter : weight_of c.index-groups-i.result.groups < weight_of (groups_of c.args.groups.now) =
    weight_at c.args.groups.now (c.loop-i.i - 1) c.index-groups-i.result (omega arith) c.index-groups-i.is in
    let same = ap weight_of c.as_slice-in-loop-i.ensures in
    (omega (arith, c.decreases, lighter, same), c.requires)
