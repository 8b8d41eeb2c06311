use Rattle.session_model.proofs.Handshakes.{handshake_splits}
use Rattle.session_model.proofs.laws.handshake_splits.Goals as goal

pub returns : goal.returns
returns c = record { law = handshake_splits }
