use Rattle.std.proofs.Common.{length}
use Rattle.sbe_skew.proofs.extending.+other_data.Given as goal

abbrev pub decreases-other_data : goal.decreases-other_data
decreases-other_data l = length l.vars.now
