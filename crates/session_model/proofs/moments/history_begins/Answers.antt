use Rattle.session_model.proofs.InTime.{history_begins}
use Rattle.session_model.proofs.moments.history_begins.Goals as goal

pub returns : goal.returns
returns c = record { law = history_begins }
