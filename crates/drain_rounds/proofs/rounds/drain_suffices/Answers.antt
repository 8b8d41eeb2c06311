use Rattle.drain_rounds.proofs.Rounding.{drain_suffices}
use Rattle.drain_rounds.proofs.rounds.drain_suffices.Goals as goal

pub returns : goal.returns
returns c = record { law = drain_suffices }
