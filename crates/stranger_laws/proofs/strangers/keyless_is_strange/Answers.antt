use Rattle.stranger_laws.proofs.Given.{keyless_is_strange}
use Rattle.stranger_laws.proofs.strangers.keyless_is_strange.Goals as goal

pub returns : goal.returns
returns c = record { law = keyless_is_strange }
