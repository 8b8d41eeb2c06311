use Rattle.sbe_skew.proofs.Absent.{later_law}
use Rattle.sbe_skew.proofs.laws.later_absent.Goals as goal

pub returns : goal.returns
returns c = record { law = later_law }
