use Rattle.session_model.proofs.Guarantees.{unsequenced_guarantee}
use Rattle.session_model.proofs.guarantee.unsequenced_guarantee.Goals as goal

pub returns : goal.returns
returns c = record { law = unsequenced_guarantee }
