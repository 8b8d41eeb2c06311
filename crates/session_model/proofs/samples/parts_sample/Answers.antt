use Rattle.session_model.proofs.Sampled.{parts_sample}
use Rattle.session_model.proofs.samples.parts_sample.Goals as goal

pub returns : goal.returns
returns c = record { parts = parts_sample }
