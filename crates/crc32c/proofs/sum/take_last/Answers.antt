use Rattle.std.proofs.Common.{◌∙◌, ap, arith}
use Rattle.std.proofs.lemmas.List.{take_all}
use Rattle.std.specs.List.{fold}
use Rattle.crc32c.specs.Sums.{with_byte}
use Rattle.crc32c.proofs.sum.take_last.Goals as goal

pub returns : goal.returns
returns c = record {
  value = c.loop-byte.invariant ∙ ap (fold with_byte c.args.register) (take_all c.loop-byte.byte-index c.args.bytes.now (omega arith));
}
