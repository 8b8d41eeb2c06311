-- The law of the order of the walk, as it is proved of its definition.
use Rattle.schema_laws.proofs.Once.{walk_goes_in_order}
use Rattle.schema_laws.proofs.walk_goes_in_order.Goals as goal

pub returns : goal.returns
returns c = record { law = walk_goes_in_order }
