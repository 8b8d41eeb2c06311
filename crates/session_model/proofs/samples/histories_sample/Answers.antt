use Rattle.session_model.proofs.Sampled.{histories_sample}
use Rattle.session_model.proofs.samples.histories_sample.Goals as goal

pub returns : goal.returns
returns c = record { histories = histories_sample }
