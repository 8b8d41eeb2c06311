use Rattle.session_model.proofs.Idempotent.{idempotent_keeps_once}
use Rattle.session_model.proofs.laws.idempotent_keeps_once.Goals as goal

pub returns : goal.returns
returns c = record { law = idempotent_keeps_once }
