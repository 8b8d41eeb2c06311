use Rattle.fixp_datagram.proofs.Sampled.{recoverable_row}
use Rattle.fixp_datagram.proofs.samples.recoverable_sample.Goals as goal

pub returns : goal.returns
returns c = record { row = recoverable_row }
