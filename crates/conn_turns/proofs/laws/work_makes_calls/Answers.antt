use Rattle.conn_turns.proofs.Taking.{work_makes_calls}
use Rattle.conn_turns.proofs.laws.work_makes_calls.Goals as goal

pub returns : goal.returns
returns c = record { law = work_makes_calls }
