use Rattle.std.proofs.Common.{refl}
use Rattle.crc32c.specs.Sums.{stepped, eight_steps, with_byte, crc_from}
use Rattle.crc32c.proofs.laws.published_sums.Goals as goal

pub returns : goal.returns
unfolding stepped eight_steps with_byte crc_from
returns c = record { law = record { digits = refl; zeros = refl; ones = refl; rising = refl; falling = refl; command = refl } }
