use Rattle.fixp_datagram.proofs.Sampled.{restarted_row}
use Rattle.fixp_datagram.proofs.samples.restarted_sample.Goals as goal

pub returns : goal.returns
returns c = record { row = restarted_row }
