use Rattle.two_ends.proofs.LoopSampled.{turns_sample}
use Rattle.two_ends.proofs.samples.turns_sample.Goals as goal

pub returns : goal.returns
returns c = record { law = turns_sample }
