use Rattle.std.proofs.Common.{rules}
use Rattle.fixp_msgs.proofs.Payloads.{joined}
use Rattle.plan_feed.proofs.reading.encoding_and_message.Goals as goal

pub returns-clause-found : goal.returns-clause-found
returns-clause-found c =
    let cut = c.in_ok-encoding.ensures.cases in
    joined c.args.payload.now c.in_ok-encoding.encoding.now c.in_ok-encoding.message.now c.from_be_bytes.result c.type_inv.payload (search rules) cut.0 cut.1 c.from_be_bytes.ensures
