use Rattle.std.proofs.Common.{length}
use Rattle.sbe_skew.proofs.extending.+other_messages.Given as goal

abbrev pub decreases-other_messages : goal.decreases-other_messages
decreases-other_messages l = length l.messages.now
