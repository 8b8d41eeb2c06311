use Rattle.session_model.proofs.Kept.{serving_goes_on}
use Rattle.session_model.proofs.laws.serving_goes_on.Goals as goal

pub returns : goal.returns
returns c = record { law = serving_goes_on }
