use Rattle.std.proofs.Common.{◌≡◌, ◌<◌, ◌^◌, drop}
use Rattle.sbe_grammar.specs.Canonical.{without_bits}
use Rattle.sbe_encode.proofs.range.without_bits.Given as goal

abbrev pub invariant-loop-b : goal.invariant-loop-b
invariant-loop-b l = record {
  small : l.left < 2 ^ 127;
  same : without_bits (drop l.b-index l.bits) l.left ≡ without_bits l.bits l.value;
}
