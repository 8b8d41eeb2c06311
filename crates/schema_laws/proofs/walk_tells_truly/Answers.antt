-- The law of what stands at a place of the walk, as it is proved of its definition.
use Rattle.schema_laws.proofs.Truth.{walk_tells_truly}
use Rattle.schema_laws.proofs.walk_tells_truly.Goals as goal

pub returns : goal.returns
returns c = record { law = walk_tells_truly }
