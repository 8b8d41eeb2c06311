use Rattle.sbe_schema.proofs.Found.{walk_finds}
use Rattle.sbe_schema.proofs.Fold.{tells, kind_tells}
use Rattle.sbe_schema.proofs.checking.fault_tells.Goals as goal

pub returns : goal.returns
returns c =
    let s = c.args.schema.now in
    record { each = walk_finds s; none = tells s; least = kind_tells s }
