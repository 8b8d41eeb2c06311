use Rattle.std.proofs.Common.{◌+◌, arith}
use Rattle.gate_staff.proofs.Seating.{all_behind, all_back}
use Rattle.order_staff.proofs.staff.Staff.seated.Goals as goal

pub returns-in_default-clause-back : goal.returns-in_default-clause-back
returns-in_default-clause-back g c =
    let few = c.requires.few in
    let n = c.args.count + 1 in
    all_back c.args.gate.now n c.args.passes (omega arith) (omega (arith, few)) (all_behind c.args.gate.now n c.args.passes (omega arith) c.requires.made)
