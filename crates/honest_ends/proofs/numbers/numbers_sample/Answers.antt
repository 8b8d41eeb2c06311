use Rattle.honest_ends.proofs.NumberSampled.{numbers_sample}
use Rattle.honest_ends.proofs.numbers.numbers_sample.Goals as goal

pub returns : goal.returns
returns c = record { law = numbers_sample }
