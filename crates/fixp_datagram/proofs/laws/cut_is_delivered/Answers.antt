use Rattle.fixp_datagram.proofs.Cutting.{cut_is_delivered}
use Rattle.fixp_datagram.proofs.laws.cut_is_delivered.Goals as goal

pub returns : goal.returns
returns c = record { law = cut_is_delivered }
