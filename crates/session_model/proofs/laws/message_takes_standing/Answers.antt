use Rattle.session_model.proofs.Numbering.{message_takes_standing}
use Rattle.session_model.proofs.laws.message_takes_standing.Goals as goal

pub returns : goal.returns
returns c = record { law = message_takes_standing }
