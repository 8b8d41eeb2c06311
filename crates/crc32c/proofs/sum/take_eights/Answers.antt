use Rattle.std.proofs.Common.{ℕ, ◌∙◌, ap}
use Rattle.std.specs.List.{fold}
use Rattle.crc32c.specs.Sums.{with_byte}
use Rattle.crc32c.proofs.Pieces.{cut_off}
use Rattle.crc32c.proofs.sum.take_eights.Goals as goal

pub loop-rest-preserved : goal.loop-rest-preserved
loop-rest-preserved c =
    ap (λ (n : ℕ). fold with_byte n c.split_at.result.1.now) c.take_eight-register.ensures.value
    ∙ cut_off c.loop-rest.register c.loop-rest.rest.now c.split_at.result.0.now c.split_at.result.1.now c.split_at.ensures.front c.split_at.ensures.back
    ∙ c.loop-rest.invariant
