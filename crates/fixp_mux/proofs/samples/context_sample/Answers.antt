use Rattle.fixp_mux.proofs.Sampled.{context_row}
use Rattle.fixp_mux.proofs.samples.context_sample.Goals as goal

pub returns : goal.returns
returns c = record { row = context_row }
