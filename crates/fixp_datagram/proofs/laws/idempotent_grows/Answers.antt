use Rattle.fixp_datagram.proofs.Worlds.{idempotent_grows}
use Rattle.fixp_datagram.proofs.laws.idempotent_grows.Goals as goal

pub returns : goal.returns
returns c = record { law = idempotent_grows }
