-- The law of the ids of a checked schema, as it is proved of its definition.
use Rattle.schema_laws.proofs.KeptPairs.{checked_ids_differ}
use Rattle.schema_laws.proofs.checked_ids_differ.Goals as goal

pub returns : goal.returns
returns c = record { law = checked_ids_differ }
