-- The law of values, as it is proved of its definition.
use Rattle.schema_laws.proofs.NumberPairs.{bad_values_are_found}
use Rattle.schema_laws.proofs.bad_values_are_found.Goals as goal

pub returns : goal.returns
returns c = record { law = bad_values_are_found }
