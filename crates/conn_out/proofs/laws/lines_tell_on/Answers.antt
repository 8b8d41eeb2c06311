use Rattle.conn_out.proofs.Lines.{lines_tell_on}
use Rattle.conn_out.proofs.laws.lines_tell_on.Goals as goal

pub returns : goal.returns
returns c = record { law = lines_tell_on }
