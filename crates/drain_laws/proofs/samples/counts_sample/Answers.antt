use Rattle.drain_laws.proofs.Sampled.{initiator_counted, reader_counted}
use Rattle.drain_laws.proofs.samples.counts_sample.Goals as goal

pub returns : goal.returns
returns c = record { initiator = initiator_counted; reader = reader_counted }
