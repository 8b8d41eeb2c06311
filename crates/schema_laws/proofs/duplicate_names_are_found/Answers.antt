-- The law of names, as it is proved of its definition.
use Rattle.schema_laws.proofs.NamePairs.{duplicate_names_are_found}
use Rattle.schema_laws.proofs.duplicate_names_are_found.Goals as goal

pub returns : goal.returns
returns c = record { law = duplicate_names_are_found }
