use Rattle.std.proofs.Common.{arith}
use Rattle.sbe_prim.proofs.Words.{again_of}
use Rattle.sbe_prim.proofs.number.writes_back.Goals as goal

pub returns : goal.returns
returns c = again_of c.args.p c.args.order c.args.bytes.now c.requires.integer c.requires.whole (λ i. omega (arith, c.type_inv.bytes i))
