use Rattle.fixp_datagram.proofs.Worlds.{recoverable_grows}
use Rattle.fixp_datagram.proofs.laws.recoverable_grows.Goals as goal

pub returns : goal.returns
returns c = record { law = recoverable_grows }
