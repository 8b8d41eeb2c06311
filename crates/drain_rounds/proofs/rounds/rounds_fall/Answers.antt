use Rattle.drain_rounds.proofs.Rounding.{rounds_fall}
use Rattle.drain_rounds.proofs.rounds.rounds_fall.Goals as goal

pub returns : goal.returns
returns c = record { law = rounds_fall }
