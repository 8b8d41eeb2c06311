use Rattle.std.proofs.Common.{arith}
use Rattle.jr_record.proofs.Spelling.{length-spelled}
use Rattle.jr_record.proofs.writing.write_record.Goals as goal

pub put_record-requires-clause-room : goal.put_record-requires-clause-room
put_record-requires-clause-room c = omega (arith, length-spelled c.args.r.now, c.body_size.ensures.size, c.in-Ok.ensures.ok)
