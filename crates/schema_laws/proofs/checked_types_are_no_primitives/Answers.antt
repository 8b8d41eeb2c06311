-- The law of the types of a checked schema, as it is proved of its definition.
use Rattle.schema_laws.proofs.KeptPairs.{checked_types_are_no_primitives}
use Rattle.schema_laws.proofs.checked_types_are_no_primitives.Goals as goal

pub returns : goal.returns
returns c = record { law = checked_types_are_no_primitives }
