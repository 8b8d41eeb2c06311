use Rattle.session_model.proofs.Sampled.{held_sample}
use Rattle.session_model.proofs.samples.held_sample.Goals as goal

pub returns : goal.returns
returns c = record { held = held_sample }
