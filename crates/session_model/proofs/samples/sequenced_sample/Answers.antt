use Rattle.session_model.proofs.Sampled.{sequenced_sample, sample_plans_go_on}
use Rattle.session_model.proofs.samples.sequenced_sample.Goals as goal

pub returns : goal.returns
returns c = record { session = sequenced_sample; plans = sample_plans_go_on }
