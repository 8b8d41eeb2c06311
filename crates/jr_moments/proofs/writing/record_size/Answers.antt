use Rattle.std.proofs.Common.{arith}
use Rattle.jr_moments.proofs.Spelling.{length-plain}
use Rattle.jr_moments.proofs.writing.record_size.Goals as goal

pub returns-clause-size : goal.returns-clause-size
returns-clause-size c = omega (arith, length-plain c.args.r.now, c.record_size.ensures.size)
