use Rattle.std.proofs.Common.{refl}
use Rattle.sofh_frame.specs.Framing.{length_in, encoding_in}
use Rattle.fixp_msgs.specs.Spelled.{message_in}
use Rattle.conn_keys.specs.Samples.{VerdictsSample}
use Rattle.conn_keys.specs.Verdicts.{verdict_of}
use Rattle.conn_keys.proofs.laws.verdicts_sample.Goals as goal

sampled : VerdictsSample
unfolding verdict_of message_in length_in encoding_in
sampled = refl

pub returns : goal.returns
returns c = record { law = sampled }
