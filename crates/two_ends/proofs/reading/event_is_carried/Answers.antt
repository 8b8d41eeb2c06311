use Rattle.two_ends.proofs.Cutting.{event_is_carried}
use Rattle.two_ends.proofs.reading.event_is_carried.Goals as goal

pub returns : goal.returns
returns c = record { law = event_is_carried }
