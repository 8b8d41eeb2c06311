use Rattle.drain_rounds.proofs.Rounding.{drain_ends}
use Rattle.drain_rounds.proofs.rounds.drain_ends.Goals as goal

pub returns : goal.returns
returns c = record { law = drain_ends }
