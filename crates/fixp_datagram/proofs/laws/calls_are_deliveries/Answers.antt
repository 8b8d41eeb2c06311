use Rattle.fixp_datagram.proofs.Called.{calls_are_deliveries}
use Rattle.fixp_datagram.proofs.laws.calls_are_deliveries.Goals as goal

pub returns : goal.returns
returns c = record { law = calls_are_deliveries }
