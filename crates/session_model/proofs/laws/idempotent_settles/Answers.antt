use Rattle.session_model.proofs.Idempotent.{idempotent_settles}
use Rattle.session_model.proofs.laws.idempotent_settles.Goals as goal

pub returns : goal.returns
returns c = record { law = idempotent_settles }
