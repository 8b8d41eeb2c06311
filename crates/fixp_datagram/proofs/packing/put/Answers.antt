-- What lies behind the part that was written stays.
use Rattle.std.proofs.Common.{◌+◌, ◌-◌, length, ap, arith}
use Rattle.std.proofs.lemmas.Slice.{drop-put_mid}
use Rattle.fixp_datagram.proofs.packing.put.Goals as goal

pub returns-clause-behind : goal.returns-clause-behind
returns-clause-behind c n behind =
    drop-put_mid c.args.at (c.args.at + length c.args.bytes.now - c.args.at) c.args.out.now c.copy_from_slice.new.self n
    (omega arith) (omega arith) (omega (arith, ap length c.copy_from_slice.ensures.after))
