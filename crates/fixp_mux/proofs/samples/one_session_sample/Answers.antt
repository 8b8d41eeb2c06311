use Rattle.fixp_mux.proofs.Sampled.{one_session_row}
use Rattle.fixp_mux.proofs.samples.one_session_sample.Goals as goal

pub returns : goal.returns
returns c = record { row = one_session_row }
