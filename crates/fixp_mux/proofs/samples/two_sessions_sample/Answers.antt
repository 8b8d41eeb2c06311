use Rattle.fixp_mux.proofs.Sampled.{two_sessions_row}
use Rattle.fixp_mux.proofs.samples.two_sessions_sample.Goals as goal

pub returns : goal.returns
returns c = record { row = two_sessions_row }
