use Rattle.std.proofs.Common.{arith}
use Rattle.jr_record.proofs.Spelling.{body_within, length-spelled}
use Rattle.jr_record.proofs.laws.record_bounds.Goals as goal

pub returns : goal.returns
returns c r legal = (omega (arith, length-spelled r), omega (arith, length-spelled r, body_within r legal))
