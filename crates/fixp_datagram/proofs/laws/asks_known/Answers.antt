use Rattle.fixp_datagram.proofs.Known.{asks_known}
use Rattle.fixp_datagram.proofs.laws.asks_known.Goals as goal

pub returns : goal.returns
returns c = record { law = asks_known }
