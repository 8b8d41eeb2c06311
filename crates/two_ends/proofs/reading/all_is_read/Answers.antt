use Rattle.two_ends.proofs.Cutting.{all_is_read}
use Rattle.two_ends.proofs.reading.all_is_read.Goals as goal

pub returns : goal.returns
returns c = record { law = all_is_read }
