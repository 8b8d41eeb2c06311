use Rattle.std.proofs.Common.{arith}
use Rattle.jr_moments.proofs.Spelling.{body_within, length-spelled}
use Rattle.jr_moments.proofs.laws.dated_bounds.Goals as goal

pub returns : goal.returns
returns c d legal = (omega (arith, length-spelled d), omega arith, omega (arith, body_within d.what legal.0))
