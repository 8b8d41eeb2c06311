use Rattle.session_model.proofs.Through.{held_goes_on}
use Rattle.session_model.proofs.laws.held_goes_on.Goals as goal

pub returns : goal.returns
returns c = record { law = held_goes_on }
