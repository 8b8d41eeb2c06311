use Rattle.session_model.proofs.Sampled.{history_sample}
use Rattle.session_model.proofs.samples.history_sample.Goals as goal

pub returns : goal.returns
returns c = record { history = history_sample }
