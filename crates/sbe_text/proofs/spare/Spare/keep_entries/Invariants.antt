use Rattle.std.proofs.Common.{length}
use Rattle.sbe_text.proofs.spare.Spare.keep_entries.Given as goal

abbrev pub decreases-loop-entry : goal.decreases-loop-entry
decreases-loop-entry l = length l.left.items
