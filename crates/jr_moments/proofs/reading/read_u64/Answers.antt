use Rattle.std.proofs.Common.{rules}
use Rattle.jr_moments.proofs.Fronts.{eight}
use Rattle.jr_moments.proofs.reading.read_u64.Goals as goal

pub returns-clause-found : goal.returns-clause-found
returns-clause-found c =
    let cut = c.in_ok-front.ensures.cases in
    eight c.args.bytes.now c.in_ok-front.front.now c.in_ok-front.behind.now c.from_le_bytes.result c.type_inv.bytes (search rules) cut.0 cut.1 c.from_le_bytes.ensures
