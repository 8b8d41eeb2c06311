use Rattle.std.proofs.Common.{refl}
use Rattle.hex.specs.Hex.{encode_with}
use Rattle.conn_lines.proofs.deliver.encoding_digits.Goals as goal

pub returns-in-Little : goal.returns-in-Little
unfolding encode_with
returns-in-Little c = rw c.in-Little.is refl

pub returns-in-Big : goal.returns-in-Big
unfolding encode_with
returns-in-Big c = rw c.in-Big.is refl
