use Rattle.std.proofs.Common.{refl}
use Rattle.cmd_soak.proofs.laws.soaks_deal_rows.Goals as goal

pub returns : goal.returns
returns c = record { law = record { four = refl; ten = refl; twenty = refl } }
