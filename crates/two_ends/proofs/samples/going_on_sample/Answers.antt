use Rattle.two_ends.proofs.GoingOnSampled.{going_on_sample}
use Rattle.two_ends.proofs.samples.going_on_sample.Goals as goal

pub returns : goal.returns
returns c = record { law = going_on_sample }
