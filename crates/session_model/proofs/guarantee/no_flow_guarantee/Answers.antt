use Rattle.session_model.proofs.Guarantees.{no_flow_guarantee}
use Rattle.session_model.proofs.guarantee.no_flow_guarantee.Goals as goal

pub returns : goal.returns
returns c = record { law = no_flow_guarantee }
