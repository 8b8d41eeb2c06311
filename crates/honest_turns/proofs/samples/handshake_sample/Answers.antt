use Rattle.honest_turns.proofs.Sampled.{handshake_sample}
use Rattle.honest_turns.proofs.samples.handshake_sample.Goals as goal

pub returns : goal.returns
returns c = record { law = handshake_sample }
