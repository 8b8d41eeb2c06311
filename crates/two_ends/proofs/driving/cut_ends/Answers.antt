use Rattle.two_ends.proofs.Going.{cut_ends}
use Rattle.two_ends.proofs.driving.cut_ends.Goals as goal

pub returns : goal.returns
returns c = record { law = cut_ends }
