use Rattle.std.proofs.Common.{◌≡◌, drop}
use Rattle.text_names.specs.Values.{bit_named}
use Rattle.text_names.proofs.names.bit_named.Given as goal

abbrev pub invariant-loop-b : goal.invariant-loop-b
invariant-loop-b l = bit_named (drop l.b-index l.bits) l.name ≡ bit_named l.bits l.name
