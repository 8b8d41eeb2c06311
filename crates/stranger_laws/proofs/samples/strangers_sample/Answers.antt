use Rattle.stranger_laws.proofs.Sampled.{strangers_sample}
use Rattle.stranger_laws.proofs.samples.strangers_sample.Goals as goal

pub returns : goal.returns
returns c = record { law = strangers_sample }
