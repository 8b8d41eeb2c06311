-- The law that the walk leaves no table out, as it is proved of its definition.
use Rattle.schema_laws.proofs.Whole.{walk_leaves_none_out}
use Rattle.schema_laws.proofs.walk_leaves_none_out.Goals as goal

pub returns : goal.returns
returns c = record { law = walk_leaves_none_out }
