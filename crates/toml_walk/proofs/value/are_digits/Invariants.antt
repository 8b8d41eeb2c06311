use Rattle.std.proofs.Common.{◌≡◌, drop}
use Rattle.toml_walk.specs.Values.{are_digits}
use Rattle.toml_walk.proofs.value.are_digits.Given as goal

abbrev pub invariant-loop-byte : goal.invariant-loop-byte
invariant-loop-byte l = are_digits (drop l.byte-index l.bytes) ≡ are_digits l.bytes
