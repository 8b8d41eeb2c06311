use Rattle.order_desk.proofs.Computed.{only_memory}
use Rattle.order_desk.proofs.schema.order_plan.Goals as goal

pub unreachable-requires : goal.unreachable-requires
unreachable-requires c =
    c.in_default.not-Memory (only_memory c.args.version c.in_ok-schema.schema c.in-Err.fault c.requires.version c.in_ok-schema.ensures.schema c.in-Err.ensures.least)
