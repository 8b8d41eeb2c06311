use Rattle.drain_laws.proofs.Sampled.{negotiation_counted}
use Rattle.drain_laws.proofs.samples.negotiation_sample.Goals as goal

pub returns : goal.returns
returns c = record { law = negotiation_counted }
