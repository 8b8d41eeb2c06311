use Rattle.drain_time.proofs.Timed.{stays_in_time}
use Rattle.drain_time.proofs.times.stays_in_time.Goals as goal

pub returns : goal.returns
returns c = record { law = stays_in_time }
