use Rattle.drain_time.proofs.Timed.{drain_finishes}
use Rattle.drain_time.proofs.times.drain_finishes.Goals as goal

pub returns : goal.returns
returns c = record { law = drain_finishes }
