use Rattle.run_laws.proofs.Fitted.{configurations_fit}
use Rattle.run_laws.proofs.pieces.configurations_fit.Goals as goal

pub returns : goal.returns
returns c = record { law = configurations_fit }
