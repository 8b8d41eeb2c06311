use Rattle.session_model.proofs.Through.{growth_goes_on}
use Rattle.session_model.proofs.laws.growth_goes_on.Goals as goal

pub returns : goal.returns
returns c = record { law = growth_goes_on }
