use Rattle.std.proofs.Common.{length}
use Rattle.sbe_encode.proofs.data.+write_data.Given as goal

abbrev pub decreases-write_data : goal.decreases-write_data
decreases-write_data l = length l.plans.now
