use Rattle.connection_laws.proofs.Sampled.{course_sample}
use Rattle.connection_laws.proofs.samples.course_sample.Goals as goal

pub returns : goal.returns
returns c = record { law = course_sample }
