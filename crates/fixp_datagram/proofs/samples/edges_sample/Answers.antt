use Rattle.fixp_datagram.proofs.Sampled.{edges_row}
use Rattle.fixp_datagram.proofs.samples.edges_sample.Goals as goal

pub returns : goal.returns
returns c = record { row = edges_row }
