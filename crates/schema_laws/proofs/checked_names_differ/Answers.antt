-- The law of the names of a checked schema, as it is proved of its definition.
use Rattle.schema_laws.proofs.KeptPairs.{checked_names_differ}
use Rattle.schema_laws.proofs.checked_names_differ.Goals as goal

pub returns : goal.returns
returns c = record { law = checked_names_differ }
