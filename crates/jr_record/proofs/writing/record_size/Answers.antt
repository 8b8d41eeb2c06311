use Rattle.std.proofs.Common.{arith}
use Rattle.jr_record.proofs.Spelling.{length-spelled}
use Rattle.jr_record.proofs.writing.record_size.Goals as goal

pub returns-clause-size : goal.returns-clause-size
returns-clause-size c = omega (arith, length-spelled c.args.r.now)
