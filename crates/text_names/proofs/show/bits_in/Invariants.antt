use Rattle.std.proofs.Common.{◌≡◌, drop}
use Rattle.text_names.specs.Named.{bits_in}
use Rattle.text_names.proofs.show.bits_in.Given as goal

abbrev pub invariant-loop-b : goal.invariant-loop-b
invariant-loop-b l = bits_in (drop l.b-index l.bits) l.number l.so_far ≡ bits_in l.bits l.number 0
