use Rattle.session_model.proofs.Guarantees.{reports_guarantee}
use Rattle.session_model.proofs.guarantee.reports_guarantee.Goals as goal

pub returns : goal.returns
returns c = record { law = reports_guarantee }
