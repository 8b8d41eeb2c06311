use Rattle.conn_out.proofs.GoingOn.{last_is_told}
use Rattle.conn_out.proofs.laws.last_is_told.Goals as goal

pub returns : goal.returns
returns c = record { law = last_is_told }
