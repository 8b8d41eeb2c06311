use Rattle.stranger_laws.proofs.Deaf.{strange_turns}
use Rattle.stranger_laws.proofs.strangers.strange_turns.Goals as goal

pub returns : goal.returns
returns c = record { law = strange_turns }
