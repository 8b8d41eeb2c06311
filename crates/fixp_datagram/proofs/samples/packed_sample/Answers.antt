use Rattle.fixp_datagram.proofs.Sampled.{packed_row}
use Rattle.fixp_datagram.proofs.samples.packed_sample.Goals as goal

pub returns : goal.returns
returns c = record { row = packed_row }
