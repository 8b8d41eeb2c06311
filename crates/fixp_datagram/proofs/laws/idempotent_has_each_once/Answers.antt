use Rattle.fixp_datagram.proofs.Worlds.{idempotent_has_each_once}
use Rattle.fixp_datagram.proofs.laws.idempotent_has_each_once.Goals as goal

pub returns : goal.returns
returns c = record { law = idempotent_has_each_once }
