use Rattle.std.proofs.Common.{length}
use Rattle.text_names.proofs.path.+block_meaning.Given as goal

abbrev pub decreases-block_meaning : goal.decreases-block_meaning
decreases-block_meaning l = length l.path.now
