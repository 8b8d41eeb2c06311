use Rattle.honest_ends.proofs.RestSampled.{rest_sample}
use Rattle.honest_ends.proofs.rest.rest_sample.Goals as goal

pub returns : goal.returns
returns c = record { law = rest_sample }
