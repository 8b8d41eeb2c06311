use Rattle.std.proofs.Common.{◌≡◌, take}
use Rattle.std.specs.List.{fold}
use Rattle.crc32c.specs.Sums.{with_byte}
use Rattle.crc32c.proofs.sum.take_last.Given as goal

abbrev pub invariant-loop-byte : goal.invariant-loop-byte
invariant-loop-byte l = l.register ≡ fold with_byte l.fn.register (take l.byte-index l.bytes)
