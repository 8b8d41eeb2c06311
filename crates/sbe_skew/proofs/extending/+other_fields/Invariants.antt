use Rattle.std.proofs.Common.{length}
use Rattle.sbe_skew.proofs.extending.+other_fields.Given as goal

abbrev pub decreases-other_fields : goal.decreases-other_fields
decreases-other_fields l = length l.fields.now
