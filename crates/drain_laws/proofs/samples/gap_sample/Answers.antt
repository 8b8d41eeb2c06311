use Rattle.drain_laws.proofs.Sampled.{gap_sample}
use Rattle.drain_laws.proofs.samples.gap_sample.Goals as goal

pub returns : goal.returns
returns c = record { law = gap_sample }
