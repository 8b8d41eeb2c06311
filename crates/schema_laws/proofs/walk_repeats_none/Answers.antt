-- The law that the walk repeats no path, as it is proved of its definition.
use Rattle.schema_laws.proofs.Once.{walk_repeats_none}
use Rattle.schema_laws.proofs.walk_repeats_none.Goals as goal

pub returns : goal.returns
returns c = record { law = walk_repeats_none }
