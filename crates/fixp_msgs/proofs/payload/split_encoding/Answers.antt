use Rattle.std.proofs.Common.{rules}
use Rattle.fixp_msgs.proofs.Payloads.{joined}
use Rattle.fixp_msgs.proofs.payload.split_encoding.Goals as goal

pub returns-clause-found : goal.returns-clause-found
returns-clause-found c =
    let cut = c.in_ok-front.ensures.cases in
    joined c.args.bytes.now c.in_ok-front.front.now c.in_ok-front.behind.now c.from_be_bytes.result c.type_inv.bytes (search rules) cut.0 cut.1 c.from_be_bytes.ensures
