use Rattle.stranger_laws.proofs.Deaf.{keyless_turns}
use Rattle.stranger_laws.proofs.strangers.keyless_turns.Goals as goal

pub returns : goal.returns
returns c = record { law = keyless_turns }
