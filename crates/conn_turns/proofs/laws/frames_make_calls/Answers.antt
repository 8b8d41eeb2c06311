use Rattle.conn_turns.proofs.Taking.{frames_make_calls}
use Rattle.conn_turns.proofs.laws.frames_make_calls.Goals as goal

pub returns : goal.returns
returns c = record { law = frames_make_calls }
