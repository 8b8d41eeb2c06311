use Rattle.drain_laws.proofs.Sampled.{falls_counted}
use Rattle.drain_laws.proofs.samples.falls_sample.Goals as goal

pub returns : goal.returns
returns c = record { law = falls_counted }
