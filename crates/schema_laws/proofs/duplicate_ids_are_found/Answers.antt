-- The law of ids, as it is proved of its definition.
use Rattle.schema_laws.proofs.IdPairs.{duplicate_ids_are_found}
use Rattle.schema_laws.proofs.duplicate_ids_are_found.Goals as goal

pub returns : goal.returns
returns c = record { law = duplicate_ids_are_found }
