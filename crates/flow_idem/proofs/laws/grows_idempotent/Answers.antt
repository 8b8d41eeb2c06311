use Rattle.flow_idem.proofs.Grows.{grows_idempotent}
use Rattle.flow_idem.proofs.laws.grows_idempotent.Goals as goal

pub returns : goal.returns
returns c = record { law = grows_idempotent }
