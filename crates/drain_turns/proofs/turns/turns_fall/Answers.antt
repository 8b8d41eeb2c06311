use Rattle.drain_turns.proofs.Fallen.{turns_fall}
use Rattle.drain_turns.proofs.turns.turns_fall.Goals as goal

pub returns : goal.returns
returns c = record { law = turns_fall }
