use Rattle.fixp_datagram.proofs.Called.{deliveries_are_events}
use Rattle.fixp_datagram.proofs.laws.deliveries_are_events.Goals as goal

pub returns : goal.returns
returns c = record { law = deliveries_are_events }
