use Rattle.std.proofs.Common.{arith}
use Rattle.crc32c.proofs.Eights.{eight_at_once}
use Rattle.crc32c.proofs.sum.take_eight.Goals as goal

-- each of the eight that were looked up is what its contract says
pub returns : goal.returns
returns c = record {
  value = rw (
    c.steps_on.ensures.value,
    c.steps_on-2.ensures.value,
    c.steps_on-3.ensures.value,
    c.steps_on-4.ensures.value,
    c.steps_on-5.ensures.value,
    c.steps_on-6.ensures.value,
    c.steps_on-7.ensures.value,
    c.steps_on-8.ensures.value,
    c.to_le_bytes-own.ensures,
  ) (eight_at_once c.args.register c.args.bytes.now c.requires.eight (λ i. omega (arith, c.type_inv.bytes i)) (omega arith));
}
