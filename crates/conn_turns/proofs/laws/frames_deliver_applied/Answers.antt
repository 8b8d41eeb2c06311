use Rattle.conn_turns.proofs.Delivering.{frames_deliver_applied}
use Rattle.conn_turns.proofs.laws.frames_deliver_applied.Goals as goal

pub returns : goal.returns
returns c = record { law = frames_deliver_applied }
