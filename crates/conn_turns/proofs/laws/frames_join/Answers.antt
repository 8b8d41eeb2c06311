use Rattle.conn_turns.proofs.Taking.{frames_join}
use Rattle.conn_turns.proofs.laws.frames_join.Goals as goal

pub returns : goal.returns
returns c = record { law = frames_join }
