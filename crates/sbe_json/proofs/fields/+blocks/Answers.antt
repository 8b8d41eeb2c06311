use Rattle.std.proofs.Common.{arith}
use Rattle.sbe_text.proofs.Weights.{weight_at}
use Rattle.sbe_json.proofs.fields.+blocks.Goals as goal

pub write_groups-write_entries-requires : goal.write_groups-write_entries-requires
write_groups-write_entries-requires t c =
    (omega (arith, c.decreases, weight_at c.args.plans.now c.loop-g.g-index c.g-item.result c.loop-g-test.true c.g-item.is), tt)
