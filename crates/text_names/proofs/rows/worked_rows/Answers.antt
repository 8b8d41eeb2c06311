use Rattle.std.proofs.Common.{refl}
use Rattle.std.specs.Fmt.{digits}
use Rattle.hex.specs.Hex.{encode_with, decode_pairs}
use Rattle.text_names.proofs.rows.worked_rows.Goals as goal

pub returns-clause-wide : goal.returns-clause-wide
unfolding digits encode_with
returns-clause-wide c = refl

pub returns-clause-shown : goal.returns-clause-shown
unfolding digits encode_with decode_pairs
returns-clause-shown c = refl
