use Rattle.session_model.proofs.Guarantees.{session_begins}
use Rattle.session_model.proofs.guarantee.session_begins.Goals as goal

pub returns : goal.returns
returns c = record { law = session_begins }
