use Rattle.fixp_datagram.proofs.Sampled.{idempotent_row}
use Rattle.fixp_datagram.proofs.samples.idempotent_sample.Goals as goal

pub returns : goal.returns
returns c = record { row = idempotent_row }
