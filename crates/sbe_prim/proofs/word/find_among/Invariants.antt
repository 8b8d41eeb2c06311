use Rattle.std.proofs.Common.{◌≡◌, drop}
use Rattle.sbe_prim.specs.Names.{first_named}
use Rattle.sbe_prim.proofs.word.find_among.Given as goal

abbrev pub invariant-loop-p : goal.invariant-loop-p
invariant-loop-p l = first_named l.name (drop l.p-index l.primitives) ≡ first_named l.name l.primitives
