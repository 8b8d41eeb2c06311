use Rattle.std.proofs.Common.{◌≡◌, length}
use Rattle.std.specs.List.{fold}
use Rattle.crc32c.specs.Sums.{with_byte}
use Rattle.crc32c.proofs.sum.take_eights.Given as goal

abbrev pub invariant-loop-rest : goal.invariant-loop-rest
invariant-loop-rest l = fold with_byte l.register l.rest ≡ fold with_byte l.fn.register l.bytes

abbrev pub decreases-loop-rest : goal.decreases-loop-rest
decreases-loop-rest l = length l.rest
