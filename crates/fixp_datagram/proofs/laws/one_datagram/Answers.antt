use Rattle.fixp_datagram.proofs.Framed.{one_datagram}
use Rattle.fixp_datagram.proofs.laws.one_datagram.Goals as goal

pub returns : goal.returns
returns c = record { law = one_datagram }
