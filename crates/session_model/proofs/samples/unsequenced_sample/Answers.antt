use Rattle.session_model.proofs.Sampled.{unsequenced_sample}
use Rattle.session_model.proofs.samples.unsequenced_sample.Goals as goal

pub returns : goal.returns
returns c = record { session = unsequenced_sample }
