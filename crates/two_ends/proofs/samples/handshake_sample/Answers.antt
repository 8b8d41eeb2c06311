use Rattle.two_ends.proofs.Sampled.{handshake_sample}
use Rattle.two_ends.proofs.samples.handshake_sample.Goals as goal

pub returns : goal.returns
returns c = record { law = handshake_sample }
