use Rattle.conn_serve.proofs.Following.{were_are_turns}
use Rattle.conn_serve.proofs.laws.were_are_turns.Goals as goal

pub returns : goal.returns
returns c = record { law = were_are_turns }
