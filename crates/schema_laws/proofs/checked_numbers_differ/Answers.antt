-- The law of the values and bits of a checked schema, as it is proved of its definition.
use Rattle.schema_laws.proofs.KeptPairs.{checked_numbers_differ}
use Rattle.schema_laws.proofs.checked_numbers_differ.Goals as goal

pub returns : goal.returns
returns c = record { law = checked_numbers_differ }
