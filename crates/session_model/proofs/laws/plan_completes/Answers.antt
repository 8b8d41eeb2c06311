use Rattle.session_model.proofs.Planned.{plan_completes}
use Rattle.session_model.proofs.laws.plan_completes.Goals as goal

pub returns : goal.returns
returns c = record { law = plan_completes }
