use Rattle.drain_beats.proofs.Holding.{drain_follows}
use Rattle.drain_beats.proofs.beats.drain_follows.Goals as goal

pub returns : goal.returns
returns c = record { law = drain_follows }
