use Rattle.conn_out.proofs.Others.{others_tell_on}
use Rattle.conn_out.proofs.laws.others_tell_on.Goals as goal

pub returns : goal.returns
returns c = record { law = others_tell_on }
