use Rattle.honest_ends.proofs.Expected.{reader_expects}
use Rattle.honest_ends.proofs.phases.reader_expects.Goals as goal

pub returns : goal.returns
returns c = record { law = reader_expects }
