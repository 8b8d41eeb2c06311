use Rattle.fixp_mux.proofs.Sampled.{says_row}
use Rattle.fixp_mux.proofs.samples.says_sample.Goals as goal

pub returns : goal.returns
returns c = record { row = says_row }
