use Rattle.honest_turns.proofs.Sampled.{rest_sample}
use Rattle.honest_turns.proofs.samples.rest_sample.Goals as goal

pub returns : goal.returns
returns c = record { law = rest_sample }
