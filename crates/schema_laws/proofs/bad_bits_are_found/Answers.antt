-- The law of bits, as it is proved of its definition.
use Rattle.schema_laws.proofs.NumberPairs.{bad_bits_are_found}
use Rattle.schema_laws.proofs.bad_bits_are_found.Goals as goal

pub returns : goal.returns
returns c = record { law = bad_bits_are_found }
