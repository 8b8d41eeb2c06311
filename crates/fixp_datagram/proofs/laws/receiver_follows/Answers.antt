use Rattle.fixp_datagram.proofs.Worlds.{receiver_follows}
use Rattle.fixp_datagram.proofs.laws.receiver_follows.Goals as goal

pub returns : goal.returns
returns c = record { law = receiver_follows }
