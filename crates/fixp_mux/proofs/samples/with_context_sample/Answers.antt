use Rattle.fixp_mux.proofs.Sampled.{with_context_row}
use Rattle.fixp_mux.proofs.samples.with_context_sample.Goals as goal

pub returns : goal.returns
returns c = record { row = with_context_row }
