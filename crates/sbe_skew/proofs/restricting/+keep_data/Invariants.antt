use Rattle.std.proofs.Common.{length}
use Rattle.sbe_skew.proofs.restricting.+keep_data.Given as goal

abbrev pub decreases-keep_data : goal.decreases-keep_data
decreases-keep_data l = length l.plans.now
