use Rattle.fixp_machine.proofs.Moving.{acts_fit}
use Rattle.fixp_machine.proofs.fitting.acts_fit.Goals as goal

pub returns : goal.returns
returns c = record { law = acts_fit }
