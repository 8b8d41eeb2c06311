use Rattle.std.proofs.Common.{length}
use Rattle.say_faults.proofs.walk.found_at.Given as goal

abbrev pub decreases-loop-left : goal.decreases-loop-left
decreases-loop-left l = length l.left
