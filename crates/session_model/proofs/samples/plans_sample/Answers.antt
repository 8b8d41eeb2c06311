use Rattle.session_model.proofs.Sampled.{plans_sample}
use Rattle.session_model.proofs.samples.plans_sample.Goals as goal

pub returns : goal.returns
returns c = record { plans = plans_sample }
