use Rattle.two_ends.proofs.Sampled.{port_sample}
use Rattle.two_ends.proofs.samples.port_sample.Goals as goal

pub returns : goal.returns
returns c = record { law = port_sample }
