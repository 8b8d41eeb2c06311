use Rattle.std.proofs.Common.{length}
use Rattle.sbe_skew.proofs.restricting.+keep_items.Given as goal

abbrev pub decreases-keep_items : goal.decreases-keep_items
decreases-keep_items l = length l.plans.now
