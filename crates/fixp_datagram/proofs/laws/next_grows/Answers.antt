use Rattle.fixp_datagram.proofs.Worlds.{next_grows}
use Rattle.fixp_datagram.proofs.laws.next_grows.Goals as goal

pub returns : goal.returns
returns c = record { law = next_grows }
