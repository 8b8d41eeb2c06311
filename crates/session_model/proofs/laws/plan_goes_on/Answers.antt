use Rattle.session_model.proofs.Planned.{plan_goes_on}
use Rattle.session_model.proofs.laws.plan_goes_on.Goals as goal

pub returns : goal.returns
returns c = record { law = plan_goes_on }
