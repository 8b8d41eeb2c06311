use Rattle.session_model.proofs.Handshakes.{taken_is_true}
use Rattle.session_model.proofs.laws.taken_is_true.Goals as goal

pub returns : goal.returns
returns c = record { law = taken_is_true }
