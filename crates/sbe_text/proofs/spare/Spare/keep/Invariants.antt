use Rattle.std.proofs.Common.{length}
use Rattle.sbe_text.proofs.spare.Spare.keep.Given as goal

abbrev pub decreases-loop-group : goal.decreases-loop-group
decreases-loop-group l = length l.left.items
