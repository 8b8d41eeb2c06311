use Rattle.session_model.proofs.Handshakes.{handshake_before_messages}
use Rattle.session_model.proofs.laws.handshake_before_messages.Goals as goal

pub returns : goal.returns
returns c = record { law = handshake_before_messages }
