use Rattle.fixp_datagram.proofs.Worlds.{recoverable_is_prefix}
use Rattle.fixp_datagram.proofs.laws.recoverable_is_prefix.Goals as goal

pub returns : goal.returns
returns c = record { law = recoverable_is_prefix }
