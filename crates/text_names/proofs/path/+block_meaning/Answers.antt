use Rattle.std.proofs.Common.{sym, arith}
use Rattle.text_names.proofs.Places.{path_shorter}
use Rattle.text_names.proofs.path.+block_meaning.Goals as goal

pub block_meaning-requires : goal.block_meaning-requires
block_meaning-requires t c =
    (omega (arith, c.decreases, path_shorter c.args.path.now c.in-Some.name.now c.in-Some.after.now c.in-Some-behind_place.rest.now (sym c.in-Some.ensures) (sym c.in-Some-behind_place.ensures)), tt)
