use Rattle.session_model.proofs.Planned.{histories_go_on}
use Rattle.session_model.proofs.laws.histories_go_on.Goals as goal

pub returns : goal.returns
returns c = record { law = histories_go_on }
