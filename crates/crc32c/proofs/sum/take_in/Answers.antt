use Rattle.std.proofs.Common.{arith, ℕ, ◌≡◌, ◌∙◌, ap, bit_xor, bit_and, ◌/◌}
use Rattle.crc32c.specs.Sums.{eight_steps}
use Rattle.crc32c.proofs.Steps.{taken_in}
use Rattle.crc32c.proofs.sum.take_in.Goals as goal

pub returns : goal.returns
returns c =
    let low : c.steps_on.result ≡ eight_steps (bit_and (bit_xor c.args.register c.args.byte) 255) =
    c.steps_on.ensures.value ∙ ap (λ (n : ℕ). eight_steps (bit_and (bit_xor c.args.register n) 255)) c.from.ensures in
    record { value = ap (bit_xor (c.args.register / 256)) low ∙ taken_in c.args.register c.args.byte (omega arith) }
