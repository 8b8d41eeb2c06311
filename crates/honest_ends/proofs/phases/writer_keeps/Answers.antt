use Rattle.honest_ends.proofs.Expected.{writer_keeps}
use Rattle.honest_ends.proofs.phases.writer_keeps.Goals as goal

pub returns : goal.returns
returns c = record { law = writer_keeps }
