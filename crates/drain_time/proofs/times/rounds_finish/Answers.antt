use Rattle.drain_time.proofs.Timed.{rounds_finish}
use Rattle.drain_time.proofs.times.rounds_finish.Goals as goal

pub returns : goal.returns
returns c = record { law = rounds_finish }
