use Rattle.session_model.proofs.InTime.{history_is_session}
use Rattle.session_model.proofs.moments.history_is_session.Goals as goal

pub returns : goal.returns
returns c = record { law = history_is_session }
