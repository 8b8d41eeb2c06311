use Rattle.two_ends.proofs.Cutting.{written_is_read}
use Rattle.two_ends.proofs.reading.written_is_read.Goals as goal

pub returns : goal.returns
returns c = record { law = written_is_read }
