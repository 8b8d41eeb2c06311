-- What lies behind the part that was written stays.
use Rattle.std.proofs.Common.{◌+◌, ◌-◌, length, ap, arith}
use Rattle.std.proofs.lemmas.Slice.{drop-put_mid}
use Rattle.fixp_msgs.proofs.writing.put.Goals as goal

pub returns-clause-back : goal.returns-clause-back
returns-clause-back c n behind =
    drop-put_mid c.args.at (c.args.at + length c.args.bytes.now - c.args.at) c.args.out.now c.copy_from_slice.new.self n
    (omega arith) (omega arith) (omega (arith, ap length c.copy_from_slice.ensures.after))
