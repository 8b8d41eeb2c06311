use Rattle.drain_laws.proofs.Sampled.{load_sample}
use Rattle.drain_laws.proofs.samples.load_sample.Goals as goal

pub returns : goal.returns
returns c = record { law = load_sample }
