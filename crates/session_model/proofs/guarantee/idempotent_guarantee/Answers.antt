use Rattle.session_model.proofs.Guarantees.{idempotent_guarantee}
use Rattle.session_model.proofs.guarantee.idempotent_guarantee.Goals as goal

pub returns : goal.returns
returns c = record { law = idempotent_guarantee }
